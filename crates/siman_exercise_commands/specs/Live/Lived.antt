-- The file that `live` leaves, and its row of counts (profile).
use Rattle.std.specs.Prelude.{◌≡◌, ◌⊎◌, ◌≤◌, ℕ, true, List, [], ◌∷◌, ◌++◌, length, map, codes, slice_get, Some, None, Option, Result, Ok, Err, if◌then◌else◌}
use Rattle.std.specs.Io.KnownBytes.{Appends, Keeps}
use Rattle.byte_files.specs.Writing.{WritesPart}
use Rattle.exercise_model.specs.declared.form.Form.TheVariants.{First}
use Rattle.exercise_model.specs.Entry.{Entry}
use Rattle.exercise_model.specs.Recording.{IsRecording}
use Rattle.exercise_model.specs.Setting.{SettingData}
use Rattle.exercise_recording.specs.Text.{recording_text, head_text, end_text}
use Rattle.exercise_recording.specs.Writer.{WriterState, Starts, Finishes, Tears, finish_refusal}
use Rattle.siman_scripts.specs.declared.act.Move.{Move}
use Rattle.siman_scripts.specs.Script.{ScriptData}
use Rattle.siman_stations.specs.declared.turn.Node.{Node}
use Rattle.siman_print.specs.Line.{Number, Keyed, Line, named_line}
use Rattle.siman_print.specs.Spelled.{line_text}
use Rattle.siman_print.specs.CountLine.{counted}
use Rattle.siman_lines.specs.declared.left.LeftOut.{LeftOut}
use Rattle.siman_lines.specs.declared.station_at_line.StationAtLine.{StationAtLine}
use Rattle.siman_lines.specs.AtLines.{Telling, AtLines, AreRun, Follows}
use Rattle.siman_lines.specs.Calls.{IsUnused, IsFresh}
use Rattle.siman_lines.specs.LeftOut.{left_out_by, is_nothing}
use Rattle.siman_lines.specs.LineDatagrams.{Datagrams}
use Rattle.siman_outside.specs.declared.fault.Fault.{Fault}
use Rattle.siman_outside.specs.declared.fault.Fault.TheVariants.{Output, Memory}
use Rattle.siman_outside.specs.Making.{Answered}
use Rattle.siman_outside.specs.Outside.{Stream}
use Rattle.siman_exercise_commands.specs.Live.Moves.{MovesEnd}

-- The row.

-- live records=N, and behind it, if something was left out, busy=N dropped=N strangers=N
abbrev pub live_line : (entries : ℕ) → LeftOut → Line
live_line entries left =
    if is_nothing left then counted (codes "live") (codes "records") entries
    else named_line (codes "live") (Keyed (codes "records") (Number entries) ∷ Keyed (codes "busy") (Number left.busy)
    ∷ Keyed (codes "dropped") (Number left.dropped) ∷ Keyed (codes "strangers") (Number left.strangers) ∷ [])

abbrev pub live_text : (entries : ℕ) → LeftOut → List ℕ
live_text entries left = line_text (live_line entries left)

-- THE OUTPUT for a recording with so many entries and for what its stations left out, or why it has no end: with
-- status 0 the whole row is written; after a failed write a prefix of it, after any other fault nothing
abbrev pub PutsLiveRow : (entries : Result ℕ Fault) → LeftOut → Answered → (out : Stream) → Type 0
PutsLiveRow (Ok n) left (Ok status) out = (status ≡ 0) × Appends out.old out.new (live_text n left)
PutsLiveRow (Ok n) left (Err Output) out = WritesPart out.old out.new (live_text n left)
PutsLiveRow (Ok n) left (Err Memory) out = Keeps out.old out.new
PutsLiveRow (Ok n) left (Err other) out = ⊥
PutsLiveRow (Err fault) left answered out = (answered ≡ Err fault) × Keeps out.old out.new

-- The file.

-- the number of entries of a recording whose moves were all made: its end was written, or a prefix of it, or
-- nothing more, if the recorder was spent before; or the fault of the moves, after which nothing more was written
abbrev pub EndsRecording : (moved : Result (Unit {0}) Fault) → (old new : WriterState) → (entries : Result ℕ Fault) → Type 0
EndsRecording (Ok x) old new (Ok n) = (n ≡ old.entries) × (finish_refusal old ≡ None) × Finishes old new
EndsRecording (Ok x) old new (Err fault) =
    (fault ≡ Output) × (((old.spent ≡ true) × (new ≡ old)) ⊎ ((finish_refusal old ≡ None) × Tears old new (end_text old.entries)))
EndsRecording (Err halted) old new (Ok n) = ⊥
EndsRecording (Err halted) old new (Err fault) = (fault ≡ halted) × (new ≡ old)

-- THE ACTIONS OF STATIONS with a recorder that has begun: they made these moves, all that changed follows from
-- calls at them, and they ended the recording
pub record Performs {L : Type 0} (told : Telling L) (moves : List Move) (old new : AtLines L) (entries : Result ℕ Fault) : Type 0 where
  pub mid : WriterState
  pub moved : Result (Unit {0}) Fault
  pub made : let there : AtLines L = record { stations = new.stations; recorder = mid } in MovesEnd told moves old there moved
  pub follows : let there : AtLines L = record { stations = new.stations; recorder = mid } in Follows told old there
  pub end : EndsRecording moved mid new.recorder entries

-- THEIR RECORDING in a file, which was empty before: its head was written, and then their actions; or a prefix of
-- the head, and no move was made
abbrev pub Records : {L : Type 0} → Telling L → SettingData → List Move → (old new : List (StationAtLine L)) → (file : Stream) → (entries : Result ℕ Fault) → Type 0
Records {L} told w moves old new file entries =
    ((entries ≡ Err Output) × (new ≡ old) × WritesPart file.old file.new (head_text w))
    ⊎ ((first last : WriterState) × Starts file.old w first × (file.new ≡ last.contents)
    × (let before : AtLines L = record { stations = old; recorder = first } in
    let after : AtLines L = record { stations = new; recorder = last } in
    Performs told moves before after entries))

-- WHAT THE FILE HAS: the text of a recording with this setting and so many entries; or, after a fault, a prefix of
-- the text of one, with some entries and at most one more. The entries, without that one, are a run in the order of
-- the file, in which each received datagram that is not other was sent before.
abbrev pub IsRecorded : SettingData → (entries : Result ℕ Fault) → (file : Stream) → Type 0
IsRecorded w (Ok n) file =
    (es : List Entry) × (n ≡ length es) × AreRun w es × IsRecording (record { setting = w; entries = es })
    × Appends file.old file.new (recording_text (record { setting = w; entries = es }))
IsRecorded w (Err fault) file =
    (es : List Entry) × AreRun w es
    × ((torn : List Entry) × (length torn ≤ 1) × IsRecording (record { setting = w; entries = es ++ torn })
    × WritesPart file.old file.new (recording_text (record { setting = w; entries = es ++ torn })))

-- WHAT `live` LEAVES, of stations at their links in their initial state: their actions, the file, and the output
pub record Lives {L : Type 0} (told : Telling L) (w : SettingData) (moves : List Move) (posts : List (StationAtLine L)) (file : Stream) (answered : Answered)
    (out : Stream) : Type 0 where
  pub after : List (StationAtLine L)
  pub entries : Result ℕ Fault
  pub records : Records told w moves posts after file entries
  pub recorded : IsRecorded w entries file
  pub tells : PutsLiveRow entries (left_out_by told.passed after) answered out

-- Stations.

-- the setting of a script's recording
abbrev pub setting_of : ScriptData → SettingData
setting_of script = record { form = First; exercise = script.exercise; stations = map (λ s. s.station) script.stations }

-- EACH STATION HAS ITS MANAGER AND APPLICATION in their initial state: nothing was received, and no order was made
pub record AreNew (w : SettingData) (nodes : List Node) : Type 0 where
  pub count : length nodes ≡ length w.stations
  pub fresh : (number : ℕ) (n : Node) (handed : Option Datagrams) → slice_get nodes number ≡ Some n → IsUnused handed → IsFresh number n w handed

-- links that have sent nothing
abbrev pub AreUnused : {L : Type 0} → Telling L → List L → Type 0
AreUnused {L} told lines = (number : ℕ) (l : L) → slice_get lines number ≡ Some l → IsUnused (told.sent l)
