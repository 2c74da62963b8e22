-- What a post leaves, from the start of its recording on (profile). Histories have THE LAST EVENT FIRST.
use Rattle.std.specs.Prelude.{◌≡◌, ℕ, List, [], ◌∷◌, true, Option, Some, None}
use Rattle.std.specs.Io.KnownBytes.{Keeps}
use Rattle.siman_pdus.specs.declared.pdu.Pdu.{Pdu}
use Rattle.exercise_model.specs.Cause.{was_sent}
use Rattle.exercise_model.specs.Entry.{Entry}
use Rattle.exercise_model.specs.History.{History, Send, Get, Tell}
use Rattle.exercise_model.specs.Meaning.{meaning}
use Rattle.exercise_model.specs.Recording.{opened}
use Rattle.exercise_model.specs.Setting.{SettingData, IsSetting, must_have_sent}
use Rattle.exercise_recording.specs.Writer.{Starts}
use Rattle.siman_lines.specs.Calls.{IsFresh}
use Rattle.siman_lines.specs.KeptAtLine.{IsWritten, IsKept}
use Rattle.siman_operator.specs.Noting.{datagrams_sent}
use Rattle.siman_operator.specs.Printing.{IsPrinted}
use Rattle.siman_operator.specs.Deeds.{PostState, GoesOn}

-- a post goes on from each of these states to the next
abbrev pub GoOn : {L : Type 0} → PostState L → List (PostState L) → PostState L → Type 0
GoOn a [] c = GoesOn a c
GoOn a (b ∷ bs) c = GoesOn a b × GoOn b bs c

-- A POST AT THE START OF ITS RECORDING: the head is written, the station has received nothing and made no order,
-- and nothing is printed
pub record IsStarted {L : Type 0} (before start : Option (List ℕ)) (w : SettingData) (a : PostState L) : Type 0 where
  pub setting : IsSetting w
  pub starts : Starts before w a.recorder
  pub fresh : IsFresh a.station.index a.station.node w (Some (datagrams_sent a.station.line))
  pub log : a.printing.log ≡ opened w
  pub fault : a.printing.fault ≡ None
  pub out : Keeps start a.printing.out

-- THE INVARIANT of the station holds, when these entries are written whole
pub record InvariantHolds {L : Type 0} (before : Option (List ℕ)) (w : SettingData) (a : PostState L) (es : List Entry) : Type 0 where
  pub setting : a.recorder.setting ≡ w
  pub written : IsWritten before a.recorder es
  pub kept : IsKept a.station.index a.station.node a.recorder es (Some (datagrams_sent a.station.line))

-- THE ROWS OF THE ENTRIES that are written whole are printed, all or a prefix, as of a recording with this setting
pub record AreRowsPrinted {L : Type 0} (before start : Option (List ℕ)) (w : SettingData) (a : PostState L) (es : List Entry) : Type 0 where
  pub setting : a.printing.log.setting ≡ w
  pub written : IsWritten before a.recorder es
  pub printed : IsPrinted start es a.printing

abbrev pub Leaves : {L : Type 0} → (before start : Option (List ℕ)) → SettingData → PostState L → Type 0
Leaves before start w a = ((es : List Entry) × InvariantHolds before w a es) × ((es : List Entry) × AreRowsPrinted before start w a es)

-- no received datagram names a recorded station as its originator, except what was sent before
abbrev pub HearsOwnSent : SettingData → History → Type 0
HearsOwnSent w [] = Unit {0}
HearsOwnSent w (Send s b ∷ h) = HearsOwnSent w h
HearsOwnSent w (Get s b ∷ h) = ((p : Pdu) → meaning w.exercise b ≡ Some p → must_have_sent w p ≡ true → was_sent b h ≡ true) × HearsOwnSent w h
HearsOwnSent w (Tell s e y ∷ h) = HearsOwnSent w h
