-- The rows of entries that cannot happen next: they stand behind the shown steps (profile).
use Rattle.std.specs.Prelude.{List, length, Option, option_map}
use Rattle.std.specs.Option.{option_to_list}
use Rattle.std.specs.List.{flat_map}
use Rattle.exercise_model.specs.declared.cause.Cause.{Cause}
use Rattle.exercise_chart.specs.declared.blocked.BlockedRow.{BlockedRow}
use Rattle.exercise_chart.specs.declared.row.Row.{Row}
use Rattle.exercise_chart.specs.declared.selection.BlockedEntry.{BlockedEntry}
use Rattle.exercise_chart.specs.Row.{row_taking}
use Rattle.exercise_chart.specs.Scene.{SceneData}

-- a row with the cause against its entry
abbrev pub with_cause : Cause → Row → BlockedRow
with_cause cause row = record { row = row; cause = cause }

-- THE ROW OF AN ENTRY THAT CANNOT HAPPEN NEXT, as of a step that takes it behind all steps, if the
-- recording has the entry
abbrev pub blocked_row : SceneData → BlockedEntry → Option BlockedRow
blocked_row c b = option_map (with_cause b.cause) (row_taking c (length c.steps) b.entry)

abbrev pub blocked_row_of : SceneData → BlockedEntry → List BlockedRow
blocked_row_of c b = option_to_list (blocked_row c b)

-- ALL ROWS OF ENTRIES THAT CANNOT HAPPEN NEXT, in the order in which these are given
unfoldable pub blocked_rows : SceneData → List BlockedRow
blocked_rows c = flat_map (blocked_row_of c) c.blocked
