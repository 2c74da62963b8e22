use Rattle.exercise_review.specs.Course.{AreChanges}
use Rattle.exercise_review.proofs.changes.changes_by_station.Given as goal

-- The changes of the entries so far.
abbrev pub invariant-loop-entry : goal.invariant-loop-entry
invariant-loop-entry g l = AreChanges l.findings l.entry l.all.items
