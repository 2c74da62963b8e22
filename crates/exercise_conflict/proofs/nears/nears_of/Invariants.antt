use Rattle.exercise_conflict.specs.Near.{AreNears}
use Rattle.exercise_conflict.proofs.nears.nears_of.Given as goal

-- The sends of the entries so far are kept.
abbrev pub invariant-loop-entry : goal.invariant-loop-entry
invariant-loop-entry g l = AreNears l.findings l.entry l.nears
