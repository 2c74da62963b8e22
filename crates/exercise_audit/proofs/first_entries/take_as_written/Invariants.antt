use Rattle.std.proofs.Common.{◌≡◌}
use Rattle.exercise_audit.proofs.InOrder.{AreTaken}
use Rattle.exercise_audit.proofs.first_entries.take_as_written.Given as goal

-- The entries so far were taken.
abbrev pub invariant-loop-entry : goal.invariant-loop-entry
invariant-loop-entry g l = record {
  recording : l.course.recording ≡ l.fn.course.recording;
  taken : AreTaken l.course l.entry;
}
