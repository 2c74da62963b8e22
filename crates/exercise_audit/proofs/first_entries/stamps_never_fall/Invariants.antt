use Rattle.std.proofs.Common.{◌≡◌}
use Rattle.exercise_model.specs.Stamps.{stamp_before}
use Rattle.exercise_audit.proofs.InOrder.{RisesBelow}
use Rattle.exercise_audit.proofs.first_entries.stamps_never_fall.Given as goal

-- Stamps did not fall so far, and this is the nearest before the next entry.
abbrev pub invariant-loop-entry : goal.invariant-loop-entry
invariant-loop-entry g l = record {
  last : l.last ≡ stamp_before (g.L.ExerciseLog.recording l.log).entries l.entry;
  rises : RisesBelow (g.L.ExerciseLog.recording l.log) l.entry;
}
