use Rattle.std.proofs.Common.{◌≡◌, take}
use Rattle.std.specs.List.{flat_map}
use Rattle.exercise_chart.specs.Blocked.{blocked_row_of}
use Rattle.exercise_chart.proofs.blocked.blocked_rows.Given as goal

-- The rows of the entries so far.
abbrev pub invariant-loop-entry : goal.invariant-loop-entry
invariant-loop-entry g l = l.rows.items ≡ flat_map (blocked_row_of l.scene) (take l.entry-index l.entries)
