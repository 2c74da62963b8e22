use Rattle.std.proofs.Common.{◌≡◌}
use Rattle.exercise_conflict.specs.Ways.{further_causes_below}
use Rattle.exercise_conflict.proofs.way.further_causes.Given as goal

-- What stands against the entries so far.
abbrev pub invariant-loop-entry : goal.invariant-loop-entry
invariant-loop-entry g l = l.also.items ≡ further_causes_below l.findings l.blocks l.entry
