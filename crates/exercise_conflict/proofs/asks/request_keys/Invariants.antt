use Rattle.exercise_conflict.specs.Lacks.{AreRequestKeys}
use Rattle.exercise_conflict.proofs.asks.request_keys.Given as goal

-- The requests of the entries so far are kept.
abbrev pub invariant-loop-entry : goal.invariant-loop-entry
invariant-loop-entry g l = AreRequestKeys l.findings l.entry l.asks
