-- The recording of an exercise, from its beginning to its end (profile).
use Rattle.std.specs.Prelude.{◌≤◌, ◌⊎◌, ℕ, List, ◌++◌, length, slice_get, Option, Some, ◌≡◌, Result, Ok, Err}
use Rattle.std.specs.Io.KnownBytes.{Appends, Keeps}
use Rattle.byte_files.specs.Writing.{WritesPart}
use Rattle.exercise_model.specs.Entry.{Entry}
use Rattle.exercise_model.specs.History.{past}
use Rattle.exercise_model.specs.Recording.{IsRecording}
use Rattle.exercise_model.specs.Run.{Explains}
use Rattle.exercise_model.specs.Setting.{SettingData}
use Rattle.exercise_recording.specs.Text.{recording_text}
use Rattle.siman_stations.specs.Deeds.{ReceivesSent}
use Rattle.siman_lines.specs.Calls.{IsUnused}
use Rattle.siman_lines.specs.LineDatagrams.{Datagrams}
use Rattle.siman_trials.specs.declared.recorded.ExerciseFault.{ExerciseFault}

-- ENTRIES EXPLAIN THEMSELVES: in the order of the file they are a run that explains their recording, if each datagram received was sent before.
abbrev pub ExplainThemselves : SettingData → List Entry → Type 0
ExplainThemselves w es = ReceivesSent w (past es) → Explains (record { setting = w; entries = es }) (past es)

-- THE WHOLE TEXT OF A RECORDING was written, and its entries explain themselves.
pub record IsWhole (w : SettingData) (old new : Option (List ℕ)) : Type 0 where
  pub entries : List Entry
  pub limits : IsRecording (record { setting = w; entries = entries })
  pub text : Appends old new (recording_text (record { setting = w; entries = entries }))
  pub explained : ExplainThemselves w entries

-- The beginning of such a text was written: that of these entries, which explain themselves, and of at most one more.
pub record IsPart (w : SettingData) (old new : Option (List ℕ)) : Type 0 where
  pub entries : List Entry
  pub torn : List Entry
  pub one : length torn ≤ 1
  pub limits : IsRecording (record { setting = w; entries = entries ++ torn })
  pub text : WritesPart old new (recording_text (record { setting = w; entries = entries ++ torn }))
  pub explained : ExplainThemselves w entries

-- CONTENTS OF THE FILE of an exercise in this setting: its whole recording; or, after a fault, nothing new or the beginning of one.
abbrev pub Leaves : SettingData → Option (List ℕ) → Option (List ℕ) → Result (Unit {0}) ExerciseFault → Type 0
Leaves w old new (Ok x) = IsWhole w old new
Leaves w old new (Err fault) = Keeps old new ⊎ IsPart w old new

-- Links through which nothing was sent, as far as their contract says.
abbrev pub AreUnused : {L : Type 0} → (L → Option Datagrams) → List L → Type 0
AreUnused {L} sent lines = (number : ℕ) (l : L) → slice_get lines number ≡ Some l → IsUnused (sent l)
