-- THE PICTURE OF AN EXERCISE, as a text in SVG (profile).
use Rattle.std.specs.Prelude.{◌≡◌, ℕ, ◌<◌, ◌⊎◌, List, ◌++◌, length, codes, All, Option, Result, Ok, Err, String, string_bytes}
use Rattle.std.specs.declared.alloc.Global.{Global}
use Rattle.dis_records.specs.declared.address.SiteApplication.{SiteApplication}
use Rattle.dis_records.specs.declared.entity.EntityId.{EntityId}
use Rattle.exercise_model.specs.Recording.{PlainRecording}
use Rattle.exercise_check.specs.declared.certificate.Step.{Step}
use Rattle.exercise_chart.specs.declared.blocked.BlockedRow.{BlockedRow}
use Rattle.exercise_chart.specs.declared.clock.ClockUnit.{ClockUnit}
use Rattle.exercise_chart.specs.declared.fault.ChartFault.{ChartFault}
use Rattle.exercise_chart.specs.declared.fault.ChartFault.TheVariants.{OverLimit, Memory}
use Rattle.exercise_chart.specs.declared.marks.TheConstants.{MOST_ROWS}
use Rattle.exercise_chart.specs.declared.point.Rows.{Rows}
use Rattle.exercise_chart.specs.declared.row.Row.{Row}
use Rattle.exercise_chart.specs.declared.selection.BlockedEntry.{BlockedEntry}
use Rattle.exercise_chart.specs.Bar.{IsOverfull}
use Rattle.exercise_chart.specs.Marks.{MarksData, scene_of, marks_of}
use Rattle.exercise_chart.specs.Row.{row_count}
use Rattle.exercise_chart.specs.Frame.{FrameData}
use Rattle.exercise_chart.specs.Heading.{heading_text}
use Rattle.exercise_chart.specs.Kept.{columns_of, kept_of}
use Rattle.exercise_chart.specs.Rows.{rows_text}
use Rattle.exercise_chart.specs.Columns.{columns_text, names_text}
use Rattle.exercise_chart.specs.Bars.{bars_text}
use Rattle.exercise_chart.specs.Lines.{arrows_text, outsiders_text, losses_text}
use Rattle.exercise_chart.specs.Sheets.{sheets_text}
use Rattle.exercise_chart.specs.Signs.{activity_signs_text, all_unanswered_text, blocked_signs_text}

-- the rows, the blocked ones too, name only stations below n
pub record AreOfStations (n : ℕ) (m : MarksData) : Type 0 where
  pub rows : All (λ (row : Row). row.at.station < n) m.rows
  pub blocked : All (λ (blocked : BlockedRow). blocked.row.at.station < n) m.blocked

-- the frame: the shown rows, the stations, of which these are kept, the clock and the number of blocked
-- rows decide all places
abbrev pub frame_of : PlainRecording → Rows → (stations : List SiteApplication) → Option ClockUnit → (blocked : ℕ) → FrameData
frame_of r rows stations clock blocked = record {
  rows = rows;
  stations = length r.setting.stations;
  columns = columns_of r stations;
  kept = kept_of r stations;
  clock = clock;
  blocked = blocked;
}

-- the part below the lines: heading, rows, columns and bars
unfoldable pub under_text : FrameData → PlainRecording → MarksData → List ℕ
under_text f r m = heading_text f r ++ rows_text f r m.rows m.blocked ++ columns_text f ++ bars_text f r m.bars m.undrawn

-- the lines, the signs, the names, the sheets and the end
unfoldable pub over_text : FrameData → PlainRecording → MarksData → List ℕ
over_text f r m =
    arrows_text f m.arrows ++ outsiders_text f m.outside ++ losses_text f r m.losses ++ activity_signs_text f m.bars m.rows
    ++ all_unanswered_text f m.unanswered ++ blocked_signs_text f m.blocked ++ codes "</g>\n" ++ names_text f r ++ codes "</g>\n" ++ sheets_text f
    ++ codes "</svg>\n"

abbrev pub picture_in : FrameData → PlainRecording → MarksData → List ℕ
picture_in f r m = under_text f r m ++ over_text f r m

-- THE PICTURE of the marks of a recording, with these steps shown, with the columns of the stations that have
-- these addresses, or of all where none is given, and with a clock if a unit is given
abbrev pub picture_text : PlainRecording → MarksData → Rows → (stations : List SiteApplication) → Option ClockUnit → List ℕ
picture_text r m rows stations clock = picture_in (frame_of r rows stations clock (length m.blocked)) r m

-- ---- results of functions

-- the picture of a range of steps of a certificate; OverLimit says that there are too many rows, or
-- too many spans of some station
abbrev pub Draws : PlainRecording → List Step → Rows → (chosen : List EntityId) → (stations : List SiteApplication) → Option ClockUnit
    → (blocked : List BlockedEntry) → Result (String Global) ChartFault → Type 0
Draws r steps w chosen stations clock blocked (Ok text) = string_bytes text ≡ picture_text r (marks_of r steps w chosen blocked) w stations clock
Draws r steps w chosen stations clock blocked (Err OverLimit) = (MOST_ROWS < row_count (scene_of r steps w chosen blocked)) ⊎ IsOverfull r
Draws r steps w chosen stations clock blocked (Err Memory) = Unit {0}
