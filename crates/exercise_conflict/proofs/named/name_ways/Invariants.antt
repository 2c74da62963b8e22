use Rattle.std.proofs.Common.{◌≡◌, ◌++◌, take}
use Rattle.std.specs.List.{flat_map}
use Rattle.exercise_conflict.specs.Told.{way_entries}
use Rattle.exercise_conflict.proofs.named.name_ways.Given as goal

-- The entries that are named so far.
abbrev pub invariant-loop-way : goal.invariant-loop-way
invariant-loop-way l = l.entries.items ≡ l.initial.entries.items ++ flat_map way_entries (take l.way-index l.ways)
