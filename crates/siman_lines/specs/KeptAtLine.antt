-- THE INVARIANT of a station, with its link, its recorder, its manager and its application (profile). Histories,
-- turns and calls have THE LAST ONE FIRST.
use Rattle.std.specs.Prelude.{◌≡◌, ◌≤◌, ◌<◌, ℕ, List, [], ◌∷◌, ◌++◌, take, length, Bool, true, false, Option, Some, None, Result, Err, ◌⊎◌}
use Rattle.std.specs.Io.KnownBytes.{Appends}
use Rattle.std.specs.List.{AllByRecursion, flat_map}
use Rattle.exercise_model.specs.declared.recording.TheConstants.{MOST_ENTRIES}
use Rattle.exercise_model.specs.Entry.{Entry, Sent, Received, Told}
use Rattle.exercise_model.specs.History.{past, log_at}
use Rattle.exercise_model.specs.Recording.{IsRecording}
use Rattle.exercise_model.specs.Setting.{SettingData, station_in}
use Rattle.exercise_recording.specs.declared.fault.WriterFault.{WriterFault}
use Rattle.exercise_recording.specs.declared.fault.WriterFault.TheVariants as writer_faults
use Rattle.exercise_recording.specs.Text.{head_text, entry_text}
use Rattle.exercise_recording.specs.Writer.{WriterState}
use Rattle.siman_application.specs.Application.{came}
use Rattle.siman_stations.specs.declared.turn.Node.{Node}
use Rattle.siman_stations.specs.Halves.{HalvesFollow}
use Rattle.siman_stations.specs.StationTurn.{AreOf}
use Rattle.siman_lines.specs.declared.fault.ServeFault.{ServeFault}
use Rattle.siman_lines.specs.declared.fault.ServeFault.TheVariants as serve_faults
use Rattle.siman_lines.specs.declared.fault.IssueFault.{IssueFault}
use Rattle.siman_lines.specs.declared.fault.IssueFault.TheVariants as issue_faults
use Rattle.siman_lines.specs.declared.served.Served.{Served}
use Rattle.siman_lines.specs.LineDatagrams.{Datagrams}

-- The recorder.

-- after the entries that are written whole there is nothing, or, if a write failed, a prefix of one more
abbrev pub IsTail : Bool → SettingData → List Entry → List ℕ → Type 0
IsTail false w es torn = torn ≡ []
IsTail true w es torn = (e : Entry) × (n : ℕ) × (torn ≡ take n (entry_text e)) × IsRecording (record { setting = w; entries = es ++ e ∷ [] })

-- THE OUTPUT behind the earlier bytes: the head of a recording, these entries whole, and at most one torn one
pub record IsWritten (before : Option (List ℕ)) (w : WriterState) (es : List Entry) : Type 0 where
  pub torn : List ℕ
  pub contents : Appends before w.contents (head_text w.setting ++ flat_map entry_text es ++ torn)
  pub count : w.entries ≡ length es
  pub recording : IsRecording (record { setting = w.setting; entries = es })
  pub tail : IsTail w.spent w.setting es torn

-- the recorder takes no further entry
abbrev pub IsClosed : WriterState → Type 0
IsClosed w = (w.spent ≡ true) ⊎ (MOST_ENTRIES ≤ w.entries)

-- The link.

-- station s sent the datagram in one of these entries
abbrev pub HasSent : ℕ → List Entry → List ℕ → Type 0
HasSent s [] b = ⊥
HasSent s (Sent t stamp c ∷ es) b = ((t ≡ s) × (c ≡ b)) ⊎ HasSent s es b
HasSent s (Received t stamp c ∷ es) b = HasSent s es b
HasSent s (Told t e y ∷ es) b = HasSent s es b

-- each datagram that a link was passed, if it specifies them, is that of an entry that is written whole
abbrev pub AreHanded : ℕ → List Entry → Option Datagrams → Type 0
AreHanded s es None = Unit {0}
AreHanded s es (Some ds) = AllByRecursion (HasSent s es) ds

-- The node.

-- manager and application have the exercise of the recorder, and the station of this index
pub record IsOfStation (s : ℕ) (n : Node) (w : SettingData) : Type 0 where
  pub within : s < length w.stations
  pub exercise : n.application.outfit.exercise ≡ w.exercise
  pub station : n.application.outfit.station ≡ station_in w s
  pub manager_exercise : n.manager.settings.exercise ≡ w.exercise
  pub address : n.manager.settings.address ≡ (station_in w s).address

-- THE INVARIANT of a station, when these entries are written whole and its link specifies these datagrams as sent
pub record IsKept (s : ℕ) (n : Node) (w : WriterState) (es : List Entry) (handed : Option Datagrams) : Type 0 where
  pub station : IsOfStation s n w.setting
  pub halves : HalvesFollow (Unit {0}) s n.application.outfit (came n.application) n.manager (log_at s (past es)) (IsClosed w)
  pub handed_are : AreHanded s es handed

-- A CALL PRESERVES THE INVARIANT of the station that makes it: more entries of that station alone were written, and
-- the invariant holds
pub record KeepsOn (s : ℕ) (before : Option (List ℕ)) (es : List Entry) (new_node : Node) (old new : WriterState) (handed : Option Datagrams) : Type 0 where
  pub more : List Entry
  pub own : AreOf s more
  pub setting : new.setting ≡ old.setting
  pub closed : IsClosed old → IsClosed new
  pub written : IsWritten before new (es ++ more)
  pub kept : IsKept s new_node new (es ++ more) handed

-- a call preserves the invariant, whatever the entries before
abbrev pub Keeps : ℕ → Node → WriterState → Option Datagrams → Node → WriterState → Option Datagrams → Type 0
Keeps s n w handed m new handed_after =
    (before : Option (List ℕ)) (es : List Entry) → IsWritten before w es → IsKept s n w es handed → KeepsOn s before es m w new handed_after

-- Refusals of the recorder.

-- the recorder refuses if it was spent before, if it is full, or if a write failed now; an entry is never of a
-- wrong kind
abbrev pub IsRightRefusal : WriterFault → WriterState → WriterState → Type 0
IsRightRefusal writer_faults.Write old new = new.spent ≡ true
IsRightRefusal writer_faults.Spent old new = old.spent ≡ true
IsRightRefusal writer_faults.Count old new = MOST_ENTRIES ≤ new.entries
IsRightRefusal writer_faults.Argument old new = ⊥

abbrev pub RefusesServe : WriterState → WriterState → Result Served ServeFault → Type 0
RefusesServe old new (Err (serve_faults.Record fault)) = IsRightRefusal fault old new
RefusesServe old new result = Unit {0}

abbrev pub RefusesIssue : {X : Type 0} → WriterState → WriterState → Result X IssueFault → Type 0
RefusesIssue old new (Err (issue_faults.Record fault)) = IsRightRefusal fault old new
RefusesIssue old new result = Unit {0}
