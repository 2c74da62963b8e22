-- The turn of a station that received a datagram (profile).
use Rattle.std.specs.Prelude.{◌≡◌, ◌≤◌, ◌⊎◌, ℕ, ◌*◌, ◌%◌, ◌^◌, List, [], ◌∷◌, length, Option, Some, None}
use Rattle.std.specs.List.{AllByRecursion}
use Rattle.dis_records.specs.declared.header.TheConstants.{LARGEST_DATAGRAM}
use Rattle.siman_pdus.specs.declared.pdu.Pdu.{Pdu}
use Rattle.siman_pdus.specs.Reading.{reading}
use Rattle.siman_pdus.specs.Spelling.{pdu_text}
use Rattle.exercise_model.specs.Entry.{Entry, Sent, Received}
use Rattle.exercise_model.specs.History.{event_of, station_of}
use Rattle.siman_application.specs.Play.{reply_after}
use Rattle.siman_application.specs.Application.{ApplicationData, Takes, came}
use Rattle.siman_manager.specs.Answers.{taken}
use Rattle.siman_stations.specs.declared.moment.Moment.{Moment}
use Rattle.siman_stations.specs.declared.turn.Node.{Node}
use Rattle.siman_stations.specs.declared.turn.TurnFault.{TurnFault}
use Rattle.siman_stations.specs.declared.turn.TurnFault.TheVariants as faults

-- the timestamp of what is sent at this time of the clock: the time past the hour is its lower 31 bits, relative
-- (IEEE 1278.1-2012, 6.2.88; which bits is this project's profile)
abbrev pub stamp_of : ℕ → ℕ
stamp_of now = 2 * (now % 2 ^ 31)

-- the entry of a PDU that a station sends, if any: its canonical text
abbrev pub sent_as : ℕ → ℕ → Option Pdu → List Entry
sent_as s now None = []
sent_as s now (Some p) = Sent s now (pdu_text p) ∷ []

-- the entries are of one station
abbrev pub AreOf : ℕ → List Entry → Type 0
AreOf s es = AllByRecursion (λ e. station_of (event_of e) ≡ s) es

-- the reply that an application has for a received datagram, if that is a PDU and a reply is due
abbrev pub reply_due : ApplicationData → Option Pdu → ℕ → Option Pdu
reply_due s None stamp = None
reply_due s (Some q) stamp = reply_after s.outfit (came s) q stamp

-- exactly these entries are recorded, one after the other
abbrev pub RecordsAll : {R : Type 0} → (R → Entry → R → Type 0) → List Entry → R → R → Type 0
RecordsAll records [] old new = new ≡ old
RecordsAll {R} records (e ∷ es) old new = (next : R) × records old e next × RecordsAll records es next new

-- application and manager took the datagram, if it is a PDU
abbrev pub TakesBoth : Option Pdu → Node → Node → Type 0
TakesBoth None old new = new ≡ old
TakesBoth (Some q) old new = Takes old.application q new.application × (new.manager ≡ taken old.manager q)

-- THE ENTRIES OF A TURN: the datagram is received, and the reply is sent, if one is due
abbrev pub turn_entries : ApplicationData → ℕ → Moment → List ℕ → List Entry
turn_entries a s at b = Received s at.now b ∷ sent_as s at.now (reply_due a (reading b) at.stamp)

-- An answer.

-- the application took the PDU, and the reply that is due, which a datagram can carry, was not recorded
pub record IsUnsent {R F : Type 0} (refuses : R → Entry → F → R → Type 0) (s : ℕ) (at : Moment) (q : Pdu) (fault : F) (old new : R) (before after : ApplicationData) : Type 0 where
  pub answer : Pdu
  pub due : reply_due before (Some q) at.stamp ≡ Some answer
  pub size : length (pdu_text answer) ≤ LARGEST_DATAGRAM
  pub refused : refuses old (Sent s at.now (pdu_text answer)) fault new
  pub application : Takes before q after

-- the effect of a fault: after lack of memory all is unchanged
abbrev pub FailsAnswer : {R F : Type 0} → (R → Entry → F → R → Type 0) → ℕ → Moment → Pdu → TurnFault F → R → R → ApplicationData → ApplicationData → Type 0
FailsAnswer refuses s at q (faults.Record fault) old new before after = IsUnsent refuses s at q fault old new before after
FailsAnswer refuses s at q faults.Memory old new before after = (new ≡ old) × (after ≡ before)

-- A turn.

-- the datagram was not recorded, and nothing was done
pub record IsUnheard {R F : Type 0} (refuses : R → Entry → F → R → Type 0) (s now : ℕ) (b : List ℕ) (fault : F) (old new : R) (before after : Node) : Type 0 where
  pub refused : refuses old (Received s now b) fault new
  pub halves : after ≡ before

-- the datagram was recorded, and the application took its PDU; the reply was not recorded, and the manager is
-- unchanged
pub record IsUnanswered {R F : Type 0} (records : R → Entry → R → Type 0) (refuses : R → Entry → F → R → Type 0) (s : ℕ) (at : Moment) (b : List ℕ) (fault : F) (old new : R) (before after : Node) : Type 0 where
  pub next : R
  pub pdu : Pdu
  pub received : records old (Received s at.now b) next
  pub read : reading b ≡ Some pdu
  pub unsent : IsUnsent refuses s at pdu fault next new before.application after.application
  pub manager : after.manager ≡ before.manager

-- the effect of a fault: after lack of memory the datagram is recorded, and the station is unchanged, so that a
-- later copy is answered
abbrev pub FailsTurn : {R F : Type 0} → (R → Entry → R → Type 0) → (R → Entry → F → R → Type 0) → ℕ → Moment → List ℕ → TurnFault F → R → R → Node → Node
    → Type 0
FailsTurn records refuses s at b (faults.Record fault) old new before after =
    IsUnheard refuses s at.now b fault old new before after ⊎ IsUnanswered records refuses s at b fault old new before after
FailsTurn records refuses s at b faults.Memory old new before after = RecordsAll records (Received s at.now b ∷ []) old new × (after ≡ before)
