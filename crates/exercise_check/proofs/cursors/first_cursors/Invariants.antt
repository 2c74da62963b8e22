use Rattle.exercise_check.specs.Cursors.{AreCursorsFrom}
use Rattle.exercise_check.proofs.cursors.first_cursors.Given as goal

-- The entries from this one on are gone over.
abbrev pub invariant-loop-entry : goal.invariant-loop-entry
invariant-loop-entry g l = AreCursorsFrom (g.L.ExerciseLog.recording l.log) l.entry l.cursors
