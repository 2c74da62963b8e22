use Rattle.std.proofs.Common.{◌≡◌}
use Rattle.exercise_conflict.specs.Repair.{slots_below}
use Rattle.exercise_conflict.proofs.repaired.slots_of.Given as goal

-- The slots of the entries so far.
abbrev pub invariant-loop-entry : goal.invariant-loop-entry
invariant-loop-entry l = l.slots.items ≡ slots_below l.lacks l.entry
