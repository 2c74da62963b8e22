use Rattle.std.proofs.Common.{[], subst, arith}
use Rattle.exercise_model.specs.Recording.{PlainRecording, IsRecording}
use Rattle.exercise_check.specs.Cursors.{AreCursors}
use Rattle.exercise_check.proofs.checker.check_found.Goals as goal

pub take_steps-bad-requires-clause-begun : goal.take_steps-bad-requires-clause-begun
take_steps-bad-requires-clause-begun g c = record {
  course = record { limits = subst IsRecording c.log.ensures c.entry_count-entries.ensures.limits; good = λ k l. absurd (omega arith) };
  next = subst (λ (r : PlainRecording). AreCursors r [] c.in_ok-cursors.cursors) c.log-2.ensures c.in_ok-cursors.ensures;
}
