-- The arrows of a picture: receipts, each with its source (profile).
use Rattle.std.specs.Prelude.{ℕ, List, length, ◌||◌, Option, Some, None, option_map, option_and_then, if◌then◌else◌}
use Rattle.std.specs.Option.{option_to_list}
use Rattle.exercise_findings.specs.Source.{source_of}
use Rattle.exercise_review.specs.Entries.{pdu_at}
use Rattle.exercise_review.specs.Room.{lists_below}
use Rattle.exercise_chart.specs.declared.arrow.Arrow.{Arrow}
use Rattle.exercise_chart.specs.Window.{is_row}
use Rattle.exercise_chart.specs.Point.{step_of}
use Rattle.exercise_chart.specs.Saying.{pdu_summary}
use Rattle.exercise_chart.specs.Scene.{SceneData, point_in}

-- the arrow from entry j to entry i
abbrev pub arrow_between : SceneData → (j i : ℕ) → Arrow
arrow_between c j i = record { from = point_in c j; to = point_in c i; said = option_map pdu_summary (pdu_at c.recording i) }

-- the arrow to entry i from entry j, if one of the two is in a row
abbrev pub arrow_from : SceneData → (i j : ℕ) → Option Arrow
arrow_from c i j =
    if is_row c.rows (step_of c.recording c.steps j) || is_row c.rows (step_of c.recording c.steps i) then Some (arrow_between c j i) else None

-- THE ARROW TO ENTRY i, if it has a source and one of the two is in a row
unfoldable pub arrow_to : SceneData → ℕ → Option Arrow
arrow_to c i = option_and_then (arrow_from c i) (source_of c.recording i)

abbrev pub arrows_to : SceneData → ℕ → List Arrow
arrows_to c i = option_to_list (arrow_to c i)

-- ALL ARROWS, in the order of the receipts in the recording
unfoldable pub arrows_of : SceneData → List Arrow
arrows_of c = lists_below (arrows_to c) (length c.recording.entries)
