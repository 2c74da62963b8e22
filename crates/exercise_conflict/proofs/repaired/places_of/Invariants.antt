use Rattle.std.proofs.Common.{◌≡◌, ℕ, map, filter, take}
use Rattle.exercise_conflict.specs.Repair.{made, is_after, slots_after}
use Rattle.exercise_conflict.proofs.repaired.places_of.Given as goal

-- The sends so far that belong right after each entry.
abbrev pub invariant-loop-lack : goal.invariant-loop-lack
invariant-loop-lack l = (p : ℕ) → slots_after l.places p ≡ map made (filter (is_after p) (take l.lack-index l.lacks))
