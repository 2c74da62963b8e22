-- How the recording of an exercise ends, or why it was not completed (profile).
use Rattle.std.specs.Prelude.{◌≡◌, ◌⊎◌, ℕ, true, false, List, length, Option, None, IsSome, Result, Ok, Err}
use Rattle.byte_files.specs.Writing.{WritesPart}
use Rattle.exercise_model.specs.Setting.{SettingData}
use Rattle.exercise_recording.specs.declared.fault.WriterFault.TheVariants as writers
use Rattle.exercise_recording.specs.Text.{head_text, end_text}
use Rattle.exercise_recording.specs.Writer.{WriterState, Starts, Finishes, Tears, start_refusal, finish_refusal, unless_write}
use Rattle.siman_lines.specs.declared.fault.AtLineFault.TheVariants as at_lines
use Rattle.siman_lines.specs.declared.station_at_line.StationAtLine.{StationAtLine}
use Rattle.siman_lines.specs.AtLines.{Telling, AtLines, Misfits, posts_of}
use Rattle.siman_scripts.specs.declared.act.Move.{Move}
use Rattle.siman_stations.specs.declared.turn.Node.{Node}
use Rattle.siman_stations.specs.declared.world_fault.WorldFault.TheVariants as worlds
use Rattle.siman_stations.specs.Holds.{AreNewNodes}
use Rattle.siman_stations.specs.World.{WorldData, setting_of, are_world_stations}
use Rattle.siman_trials.specs.declared.performed.LinkMoveFault.{LinkMoveFault}
use Rattle.siman_trials.specs.declared.recorded.ExerciseFault.{ExerciseFault}
use Rattle.siman_trials.specs.declared.recorded.ExerciseFault.TheVariants as faults
use Rattle.siman_trials.specs.Moves.{MovesEnd}

-- The end of a recording, given the result of its moves: the end was written; or the end was refused and nothing more was written; or only a prefix of the end was written; or the moves failed and nothing more was written.
abbrev pub EndsRecording : (moved : Result (Unit {0}) LinkMoveFault) → (old new : WriterState) → (ended : Result (Unit {0}) ExerciseFault) → Type 0
EndsRecording (Ok x) old new (Ok y) = (finish_refusal old ≡ None) × Finishes old new
EndsRecording (Ok x) old new (Err (faults.Record fault)) =
    (finish_refusal old ≡ unless_write fault) × (IsSome (unless_write fault) → new ≡ old) × (fault ≡ writers.Write → Tears old new (end_text old.entries))
EndsRecording (Ok x) old new (Err other) = ⊥
EndsRecording (Err halt) old new (Err (faults.Move fault)) = (fault ≡ halt) × (new ≡ old)
EndsRecording (Err halt) old new other = ⊥

-- WHAT STATIONS DID over a recorder that was started: they made these moves, up to the first that failed, and the recording was ended.
pub record Performs {L : Type 0} (told : Telling L) (moves : List Move) (old new : AtLines L) (ended : Result (Unit {0}) ExerciseFault) : Type 0 where
  pub mid : WriterState
  pub moved : Result (Unit {0}) LinkMoveFault
  pub made : let there : AtLines L = record { stations = new.stations; recorder = mid } in MovesEnd told moves old there moved
  pub end : EndsRecording moved mid new.recorder ended

-- The recording was not started, and no move was made: its setting was refused and nothing was written, or only a prefix of its head was written.
abbrev pub IsUnstarted : SettingData → (old new : Option (List ℕ)) → (ended : Result (Unit {0}) ExerciseFault) → Type 0
IsUnstarted w old new (Err (faults.Record fault)) =
    (start_refusal w ≡ unless_write fault) × (IsSome (unless_write fault) → new ≡ old) × (fault ≡ writers.Write → WritesPart old new (head_text w))
IsUnstarted w old new other = ⊥

-- The recording was started, and the stations made their moves.
pub record IsPerformed {L : Type 0} (told : Telling L) (w : SettingData) (moves : List Move) (posts : List (StationAtLine L)) (old new : Option (List ℕ))
    (ended : Result (Unit {0}) ExerciseFault) : Type 0 where
  pub first : WriterState
  pub last : AtLines L
  pub starts : Starts old w first
  pub performs : let begun : AtLines L = record { stations = posts; recorder = first } in Performs told moves begun last ended
  pub file : new ≡ last.recorder.contents

-- STATIONS AT THEIR LINKS RECORD what they do in a file.
abbrev pub Records : {L : Type 0} → Telling L → SettingData → List Move → List (StationAtLine L) → (old new : Option (List ℕ)) → (ended : Result (Unit {0}) ExerciseFault) → Type 0
Records told w moves posts old new ended = IsUnstarted w old new ended ⊎ IsPerformed told w moves posts old new ended

-- STATIONS ARE ATTACHED TO THEIR LINKS, post i with node i, link i and station i, and record what they do. If there are not as many links as stations, or memory ran out, none is attached and nothing is written.
abbrev pub AttachesAndRecords : {L : Type 0} → Telling L → SettingData → List Node → List L → List Move → (old new : Option (List ℕ)) → (ended : Result (Unit {0}) ExerciseFault) → Type 0
AttachesAndRecords told w nodes lines moves old new ended =
    ((ended ≡ Err (faults.Lines at_lines.Line)) × Misfits nodes lines × (new ≡ old)) ⊎ ((ended ≡ Err (faults.Lines at_lines.Memory)) × (new ≡ old))
    ⊎ ((length lines ≡ length nodes) × Records told w moves (posts_of nodes lines) old new ended)

-- HOW AN EXERCISE ENDS, with the contents of its file before and after: its stations are begun, attached to their links, and record what they do. If they make no world, or memory ran out, none is begun and nothing is written.
abbrev pub ComesToEnd : {L : Type 0} → Telling L → WorldData → List L → List Move → (old new : Option (List ℕ)) → (ended : Result (Unit {0}) ExerciseFault) → Type 0
ComesToEnd told w lines moves old new ended =
    ((ended ≡ Err (faults.World worlds.Stations)) × (are_world_stations w.stations ≡ false) × (new ≡ old))
    ⊎ ((ended ≡ Err (faults.World worlds.Memory)) × (new ≡ old))
    ⊎ ((are_world_stations w.stations ≡ true)
    × ((nodes : List Node) × AreNewNodes w.exercise w.stations nodes × AttachesAndRecords told (setting_of w) nodes lines moves old new ended))
