use Rattle.std.proofs.Common.{◌≡◌, ◌++◌, take}
use Rattle.std.specs.List.{flat_map}
use Rattle.exercise_conflict.specs.Told.{missing_send_entries}
use Rattle.exercise_conflict.proofs.named.name_missing_sends.Given as goal

-- The entries that are named so far.
abbrev pub invariant-loop-lack : goal.invariant-loop-lack
invariant-loop-lack l = l.entries.items ≡ l.initial.entries.items ++ flat_map missing_send_entries (take l.lack-index l.lacks)
