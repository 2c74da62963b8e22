use Rattle.std.proofs.Common.{arith}
use Rattle.exercise_findings.proofs.FirstSends.{all_hashed}
use Rattle.exercise_findings.proofs.first_sends.hash_all.Goals as goal

pub returns-clause-senders : goal.returns-clause-senders
returns-clause-senders g c =
    let r = g.L.ExerciseLog.recording c.args.log.now in
    let kept = c.loop-place.invariant in
    all_hashed r c.args.before c.loop-place.sends (omega (arith, kept.hashed, kept.order, c.loop-place-test.false, c.loop-place.auto._place-end)) kept.tied
