use Rattle.std.proofs.Common.{◌≡◌, map, filter, take}
use Rattle.exercise_conflict.specs.Repair.{made, is_first}
use Rattle.exercise_conflict.proofs.repaired.slots_first.Given as goal

-- The sends so far that belong at the start.
abbrev pub invariant-loop-lack : goal.invariant-loop-lack
invariant-loop-lack l = l.slots.items ≡ map made (filter is_first (take l.lack-index l.lacks))
