use Rattle.exercise_conflict.specs.Own.{AreOwnFrom}
use Rattle.exercise_conflict.proofs.own.own_of.Given as goal

-- The entries from this one on are gone over.
abbrev pub invariant-loop-entry : goal.invariant-loop-entry
invariant-loop-entry g l = AreOwnFrom (g.L.ExerciseLog.recording l.log) l.entry l.own
