use Rattle.std.proofs.Common.{refl}
use Rattle.exercise_findings.proofs.Reused.{none_kept}
use Rattle.exercise_findings.proofs.requests.no_requests.Goals as goal

pub returns : goal.returns
returns g c =
    let r = g.L.ExerciseLog.recording c.args.log.now in
    none_kept r (record { firsts = c.empty_table.result; mixed = c.with_hasher.result }) c.empty_table.ensures.slots c.empty_table.ensures.order
    (λ k. rw c.with_hasher.ensures.empty refl)
