-- THE MARKS OF A PICTURE of a range of steps of a certificate of a recording (profile).
use Rattle.std.specs.Prelude.{◌≡◌, ◌<◌, ◌⊎◌, List, Result, Ok, Err}
use Rattle.dis_records.specs.declared.entity.EntityId.{EntityId}
use Rattle.exercise_model.specs.Recording.{PlainRecording}
use Rattle.exercise_check.specs.declared.certificate.Step.{Step}
use Rattle.exercise_chart.specs.declared.point.Point.{Point}
use Rattle.exercise_chart.specs.declared.point.Rows.{Rows}
use Rattle.exercise_chart.specs.declared.row.Row.{Row}
use Rattle.exercise_chart.specs.declared.arrow.Arrow.{Arrow}
use Rattle.exercise_chart.specs.declared.outside.OutsideReceipt.{OutsideReceipt}
use Rattle.exercise_chart.specs.declared.loss.Loss.{Loss}
use Rattle.exercise_chart.specs.declared.bar.Bar.{Bar}
use Rattle.exercise_chart.specs.declared.bar.Undrawn.{Undrawn}
use Rattle.exercise_chart.specs.declared.blocked.BlockedRow.{BlockedRow}
use Rattle.exercise_chart.specs.declared.selection.BlockedEntry.{BlockedEntry}
use Rattle.exercise_chart.specs.declared.marks.Marks.{Marks}
use Rattle.exercise_chart.specs.declared.marks.TheConstants.{MOST_ROWS}
use Rattle.exercise_chart.specs.declared.fault.ChartFault.{ChartFault}
use Rattle.exercise_chart.specs.declared.fault.ChartFault.TheVariants.{OverLimit, Memory}
use Rattle.exercise_chart.specs.Scene.{SceneData}
use Rattle.exercise_chart.specs.Row.{row_count, rows_of}
use Rattle.exercise_chart.specs.Arrow.{arrows_of}
use Rattle.exercise_chart.specs.Outside.{outside_receipts}
use Rattle.exercise_chart.specs.Loss.{losses_of}
use Rattle.exercise_chart.specs.Bar.{bars_of, all_undrawn, IsOverfull}
use Rattle.exercise_chart.specs.Unanswered.{unanswered_of}
use Rattle.exercise_chart.specs.Blocked.{blocked_rows}

-- | Mark       | One for each                                                                                                              |
-- |------------|---------------------------------------------------------------------------------------------------------------------------|
-- | row        | shown step: its entry, and what the station did: sent or received a PDU or other bytes, or reported a state               |
-- | arrow      | receipt with its source, at least one of them in a row                                                                    |
-- | outside    | receipt, in a row, from an address that nobody recorded, with that address                                                |
-- | loss       | first send of its bytes, in a row, and other recorded station that it is addressed to and that never received it          |
-- | bar        | span that began in the last row or before and did not end before the first, of the 8 least chosen entities of a station that have one |
-- | undrawn    | station more than 8 of whose chosen entities have such a span, with how many more                                           |
-- | unanswered | first receipt, in a row, of a request at a receiver whose fate there is unanswered                                        |
-- | blocked    | next entry, of those given, of a station that cannot go on: its row behind the shown steps, with the cause against it        |
pub record MarksData : Type 0 where
  pub rows : List Row
  pub arrows : List Arrow
  pub outside : List OutsideReceipt
  pub losses : List Loss
  pub bars : List Bar
  pub undrawn : List Undrawn
  pub unanswered : List Point
  pub blocked : List BlockedRow

abbrev pub marks_in : SceneData → MarksData
marks_in c = record {
  rows = rows_of c;
  arrows = arrows_of c;
  outside = outside_receipts c;
  losses = losses_of c;
  bars = bars_of c;
  undrawn = all_undrawn c;
  unanswered = unanswered_of c;
  blocked = blocked_rows c;
}

abbrev pub scene_of : PlainRecording → List Step → Rows → (chosen : List EntityId) → (blocked : List BlockedEntry) → SceneData
scene_of r steps rows chosen blocked = record { recording = r; steps = steps; rows = rows; chosen = chosen; blocked = blocked }

-- THE MARKS of a range of steps of a certificate, with bars of the chosen entities, or of all where
-- none is chosen, and with rows of these entries that cannot happen next
abbrev pub marks_of : PlainRecording → List Step → Rows → (chosen : List EntityId) → (blocked : List BlockedEntry) → MarksData
marks_of r steps rows chosen blocked = marks_in (scene_of r steps rows chosen blocked)

-- the marks in a value of the program
abbrev pub marks_data : Marks → MarksData
marks_data m = record {
  rows = m.rows.items;
  arrows = m.arrows.items;
  outside = m.outside.items;
  losses = m.losses.items;
  bars = m.bars.items;
  undrawn = m.undrawn.items;
  unanswered = m.unanswered.items;
  blocked = m.blocked.items;
}

-- ---- results of functions

-- the marks; OverLimit says that there are too many rows, or too many spans of some station
abbrev pub Marked : SceneData → Result Marks ChartFault → Type 0
Marked c (Ok marks) = marks_data marks ≡ marks_in c
Marked c (Err OverLimit) = (MOST_ROWS < row_count c) ⊎ IsOverfull c.recording
Marked c (Err Memory) = Unit {0}
