-- The picture of some steps of a recording, and the rows of the answer of `chart`.
use Rattle.std.specs.Prelude.{◌≡◌, ◌⊎◌, ◌<◌, ◌≤◌, ℕ, ◌-◌, ◌==◌, List, [], ◌∷◌, ◌++◌, length, codes, string_bytes, Option, Some, None, Result, Ok, Err, if◌then◌else◌}
use Rattle.exercise_model.specs.Recording.{PlainRecording}
use Rattle.exercise_check.specs.declared.certificate.Step.{Step}
use Rattle.dis_records.specs.declared.address.SiteApplication.{SiteApplication}
use Rattle.dis_records.specs.declared.entity.EntityId.{EntityId}
use Rattle.exercise_chart.specs.declared.clock.ClockUnit.{ClockUnit}
use Rattle.exercise_chart.specs.declared.fault.ChartFault.{ChartFault}
use Rattle.exercise_chart.specs.declared.fault.ChartFault.TheVariants as charts
use Rattle.exercise_chart.specs.declared.marks.TheConstants.{MOST_ROWS}
use Rattle.exercise_chart.specs.declared.point.Rows.{Rows}
use Rattle.exercise_chart.specs.declared.selection.BlockedEntry.{BlockedEntry}
use Rattle.exercise_chart.specs.Bar.{IsOverfull}
use Rattle.exercise_chart.specs.Drawing.{picture_text}
use Rattle.exercise_chart.specs.Kept.{kept_of}
use Rattle.exercise_chart.specs.Marks.{marks_of}
use Rattle.siman_print.specs.Line.{Line, Number, Keyed, named_line}
use Rattle.siman_print.specs.Spelled.{line_text}
use Rattle.siman_outside.specs.Ending.{fault_text}
use Rattle.siman_outside.specs.declared.fault.Fault.{Fault}
use Rattle.siman_outside.specs.declared.fault.Fault.TheVariants as faults
use Rattle.siman_outside.specs.declared.fault.Fault.TheVariants.{ChartOverLimit, Memory}
use Rattle.siman_analysis_commands.specs.declared.chart_words.Window.{Window}
use Rattle.siman_analysis_commands.specs.declared.picture.PictureTexts.{PictureTexts}
use Rattle.siman_analysis_commands.specs.ChartWords.{entities_of, stations_of, past_of, unknown_of, AreShown}

-- ---- the rows of the answer

abbrev pub rows_count : Rows → ℕ
rows_count rows = rows.end - rows.first

-- the row `chart steps=N stations=N`, or `chart steps=N stations=N blocked=N`
abbrev pub chart_line : (steps stations : ℕ) → (blocked : Option ℕ) → Line
chart_line steps stations None =
    named_line (codes "chart") (Keyed (codes "steps") (Number steps) ∷ Keyed (codes "stations") (Number stations) ∷ [])
chart_line steps stations (Some blocked) =
    named_line (codes "chart") (Keyed (codes "steps") (Number steps) ∷ Keyed (codes "stations") (Number stations) ∷ Keyed (codes "blocked") (Number blocked) ∷ [])

-- THE ANSWER: the row of the picture alone; or the rows that say what cannot happen next, and then that of the picture
abbrev pub answer_text : (before : Option (List ℕ)) → (steps stations blocked : ℕ) → List ℕ
answer_text None steps stations blocked = line_text (chart_line steps stations None)
answer_text (Some before) steps stations blocked = before ++ line_text (chart_line steps stations (Some blocked))

-- 1 if something cannot happen next, else 0
abbrev pub status_of : (before : Option (List ℕ)) → ℕ
status_of None = 0
status_of (Some before) = 1

-- ---- the picture

-- the entries that cannot happen next stand in the picture if the last step does
abbrev pub blocked_shown : Rows → (steps : ℕ) → List BlockedEntry → List BlockedEntry
blocked_shown rows steps blocked = if rows.end == steps then blocked else []

-- the texts of the picture of some steps, with bars of the chosen entities, the columns of the kept stations, perhaps with a clock, and with these entries that cannot happen next: its file, which is the picture of their marks, and the rows of the answer
pub record ArePictureTexts (r : PlainRecording) (steps : List Step) (rows : Rows) (entities : List EntityId) (stations : List SiteApplication) (clock : Option ClockUnit)
    (blocked : List BlockedEntry) (before : Option (List ℕ)) (picture answer : List ℕ) : Type 0 where
  pub picture_is : picture ≡ picture_text r (marks_of r steps rows entities blocked) rows stations clock
  pub answer_is : answer ≡ answer_text before (rows_count rows) (kept_of r stations) (length blocked)

-- There are too many rows, or the entities of some station have too many spans.
abbrev pub IsOverfilled : PlainRecording → Rows → Type 0
IsOverfilled r rows = (MOST_ROWS < rows_count rows) ⊎ IsOverfull r

-- the texts of what is selected, or the fault
abbrev pub HasTexts : PlainRecording → List Step → Rows → List EntityId → List SiteApplication → Option ClockUnit → List BlockedEntry → (before : Option (List ℕ)) → Result PictureTexts ChartFault → Type 0
HasTexts r steps rows entities stations clock blocked before (Ok texts) =
    ArePictureTexts r steps rows entities stations clock blocked before (string_bytes texts.picture) (string_bytes texts.answer) × (texts.status ≡ status_of before)
HasTexts r steps rows entities stations clock blocked before (Err charts.OverLimit) = IsOverfilled r rows
HasTexts r steps rows entities stations clock blocked before (Err charts.Memory) = Unit {0}

-- the fault for a picture that could not be drawn
abbrev pub of_chart : ChartFault → Fault
of_chart charts.OverLimit = ChartOverLimit
of_chart charts.Memory = Memory

-- ---- what the words choose

-- A PICTURE IS DRAWN of these steps, and of these entries that cannot happen next: what the words choose of it
pub record DrawsPicture (words : List (List ℕ)) (window : Window) (r : PlainRecording) (steps : List Step) (blocked : List BlockedEntry) (before : Option (List ℕ))
    (picture answer : List ℕ) : Type 0 where
  -- No word names a step past the last one, and none a station that the recording does not have.
  pub within : past_of (length steps) words ≡ None
  pub recorded : unknown_of r words ≡ None
  -- These steps are shown, and they are not too many.
  pub rows : Rows
  pub shown : AreShown window (length steps) rows
  pub few : rows_count rows ≤ MOST_ROWS
  -- their picture, with bars of the entities, the columns of the stations and the clock that the words choose, and the rows of the answer
  pub texts : ArePictureTexts r steps rows (entities_of words) (stations_of words) window.clock (blocked_shown rows (length steps) blocked) before picture answer

-- The fault of a word is `filter: WORD`, with the word as it was given.
abbrev pub IsFilterFault : List ℕ → Fault → Type 0
IsFilterFault word fault = fault_text fault ≡ codes "filter: " ++ word

-- the number of steps that a fault has, for a word past the last one
abbrev pub steps_of : Fault → Option ℕ
steps_of (faults.Step word steps) = Some steps
steps_of other = None

-- WHY NO PICTURE IS DRAWN OF THESE STEPS: a word names a step past the last one; or else one names a station that the recording does not have; or the picture passes a limit
abbrev pub IsUndrawn : (words : List (List ℕ)) → Window → PlainRecording → List Step → Fault → Type 0
IsUndrawn words window r steps fault =
    ((word : List ℕ) × (past_of (length steps) words ≡ Some word) × IsFilterFault word fault × (steps_of fault ≡ Some (length steps)))
    ⊎ ((word : List ℕ) × (past_of (length steps) words ≡ None) × (unknown_of r words ≡ Some word) × IsFilterFault word fault × (steps_of fault ≡ None))
    ⊎ ((rows : Rows) × (past_of (length steps) words ≡ None) × (unknown_of r words ≡ None) × AreShown window (length steps) rows × IsOverfilled r rows × (fault ≡ ChartOverLimit))

-- THE RESULT FOR THESE STEPS: their picture and the rows of the answer, with status 1 where something cannot happen next, else 0; or the fault, which may be want of memory
abbrev pub Pictures : (words : List (List ℕ)) → Window → PlainRecording → List Step → List BlockedEntry → (before : Option (List ℕ)) → Result PictureTexts Fault → Type 0
Pictures words window r steps blocked before (Ok texts) =
    DrawsPicture words window r steps blocked before (string_bytes texts.picture) (string_bytes texts.answer) × (texts.status ≡ status_of before)
Pictures words window r steps blocked before (Err fault) = IsUndrawn words window r steps fault ⊎ (fault ≡ Memory)
