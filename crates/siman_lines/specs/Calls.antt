-- Lists of calls with one recorder: stations that each serve their own link, issue and repeat orders, and tell
-- states (profile). Histories have THE LAST EVENT FIRST.
use Rattle.std.specs.Prelude.{◌≡◌, ◌≤◌, ◌<◌, ℕ, List, [], ◌∷◌, ◌++◌, length, Option, Some, None, ◌⊎◌}
use Rattle.std.specs.List.{AllByRecursion}
use Rattle.exercise_model.specs.Entry.{Entry}
use Rattle.exercise_model.specs.History.{past}
use Rattle.exercise_model.specs.Recording.{PlainRecording, IsRecording}
use Rattle.exercise_model.specs.Run.{IsRun}
use Rattle.exercise_model.specs.Setting.{SettingData, IsSetting}
use Rattle.exercise_recording.specs.Text.{recording_text}
use Rattle.exercise_recording.specs.Writer.{WriterState, Starts}
use Rattle.siman_application.specs.Ranges.{IsProfileInRange}
use Rattle.siman_stations.specs.declared.turn.Node.{Node}
use Rattle.siman_stations.specs.Deeds.{ReceivesSent}
use Rattle.siman_lines.specs.LineDatagrams.{Datagrams}
use Rattle.siman_lines.specs.KeptAtLine.{IsWritten, IsOfStation, IsKept, Keeps}

-- Initial states.

-- a link that has sent nothing, as far as it specifies that
abbrev pub IsUnused : Option Datagrams → Type 0
IsUnused None = Unit {0}
IsUnused (Some ds) = ds ≡ []

-- A STATION IN ITS INITIAL STATE: it has received nothing and made no order, and its link has sent nothing
pub record IsFresh (s : ℕ) (n : Node) (w : SettingData) (handed : Option Datagrams) : Type 0 where
  pub station : IsOfStation s n w
  pub ranges : IsProfileInRange n.application.outfit
  pub nothing_received : n.application.kept ≡ []
  pub no_order : n.manager.orders ≡ []
  pub unused : IsUnused handed

-- Lists of calls.

-- stations with one recorder, by their indices: the node of each, and the datagrams that its link specifies as sent
pub record Stations : Type 0 where
  pub node : ℕ → Node
  pub handed : ℕ → Option Datagrams
  pub recorder : WriterState

-- A CALL at station s: it preserves the invariant of that station, as each of them does, and the other stations
-- are unchanged
pub record IsCall (s : ℕ) (old new : Stations) : Type 0 where
  pub keeps : Keeps s (old.node s) old.recorder (old.handed s) (new.node s) new.recorder (new.handed s)
  pub nodes : (t : ℕ) → (s ≡ t → ⊥) → new.node t ≡ old.node t
  pub lines : (t : ℕ) → (s ≡ t → ⊥) → new.handed t ≡ old.handed t

-- calls at these stations, one after the other
abbrev pub AreCalls : List ℕ → Stations → Stations → Type 0
AreCalls [] old new = new ≡ old
AreCalls (s ∷ ss) old new = (mid : Stations) × IsCall s old mid × AreCalls ss mid new

-- the station is one of these
abbrev pub HasStation : ℕ → List ℕ → Type 0
HasStation s [] = ⊥
HasStation s (t ∷ ts) = (s ≡ t) ⊎ HasStation s ts

-- THE INVARIANT holds of these stations, when these entries are written whole
pub record AreKept (before : Option (List ℕ)) (stations : List ℕ) (x : Stations) (es : List Entry) : Type 0 where
  pub written : IsWritten before x.recorder es
  pub kept : AllByRecursion (λ s. IsKept s (x.node s) x.recorder es (x.handed s)) stations

-- these are all stations of the recording
abbrev pub AreAll : SettingData → List ℕ → Type 0
AreAll w stations = (s : ℕ) → s < length w.stations → HasStation s stations

-- STATIONS IN THEIR INITIAL STATE with one recorder: the head of its recording is written, and these are all its
-- stations
pub record AreBegun (before : Option (List ℕ)) (w : SettingData) (stations : List ℕ) (x : Stations) : Type 0 where
  pub setting : IsSetting w
  pub starts : Starts before w x.recorder
  pub fresh : AllByRecursion (λ s. IsFresh s (x.node s) w (x.handed s)) stations
  pub all : AreAll w stations

-- The output.

-- WHAT FOLLOWS THE EARLIER BYTES is a prefix of the text of a recording: its setting, the entries that are written
-- whole, and at most one more
pub record IsBeginningOf (before : List ℕ) (w : WriterState) (es : List Entry) : Type 0 where
  pub recording : PlainRecording
  pub is : IsRecording recording
  pub setting : recording.setting ≡ w.setting
  pub torn : List Entry
  pub entries : recording.entries ≡ es ++ torn
  pub one : length torn ≤ 1
  pub front : List ℕ
  pub rest : List ℕ
  pub contents : w.contents ≡ Some (before ++ front)
  pub text : front ++ rest ≡ recording_text recording

-- THE EFFECT OF CALLS with a recorder of this setting: these entries are written whole, the invariant holds of each
-- station, and if each received datagram that is not other was sent before, the entries are a run in the order of
-- the file
pub record ComesOfCalls (before : Option (List ℕ)) (w : SettingData) (stations : List ℕ) (x : Stations) : Type 0 where
  pub entries : List Entry
  pub setting : x.recorder.setting ≡ w
  pub kept : AreKept before stations x entries
  pub run : ReceivesSent w (past entries) → IsRun w (past entries)
