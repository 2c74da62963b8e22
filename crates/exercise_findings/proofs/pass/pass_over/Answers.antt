use Rattle.std.proofs.Common.{◌≡◌, length, arith, subst}
use Rattle.exercise_findings.specs.Tables.{IsPass}
use Rattle.exercise_findings.proofs.pass.pass_over.Goals as goal

pub loop-entry-init : goal.loop-entry-init
loop-entry-init g c = (c.in_ok-found.ensures, c.no_requests-requests.ensures, c.in_ok-rising.ensures)

pub returns-clause-found : goal.returns-clause-found
returns-clause-found g c =
    let r = g.L.ExerciseLog.recording c.args.log.now in
    let end : c.loop-entry.entry ≡ length r.entries =
    omega (arith, c.loop-entry-test.false, c.loop-entry.auto.entry-end, c.entry_count-entry-end.ensures.count) in
    subst (λ n. IsPass r n c.loop-entry.found) end c.loop-entry.invariant.0
