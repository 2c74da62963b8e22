-- Knowledge from a received Able: the Change behind it, and its effect on the sender's entities (profile).
use Rattle.std.specs.Prelude.{◌≡◌, ◌≢◌, ℕ, List, ◌∷◌, true, false, Some, slice_get}
use Rattle.dis_records.specs.declared.kind.Kind.{Kind}
use Rattle.dis_records.specs.declared.kind.Kind.TheVariants as kinds
use Rattle.dis_records.specs.declared.entity_state.EntityState.{EntityState}
use Rattle.dis_records.specs.declared.entity_state.EntityState.TheVariants.{Absent, Stopped, Running}
use Rattle.siman_pdus.specs.declared.pdu.Pdu.{Pdu}
use Rattle.exercise_model.specs.declared.acknowledge.AcknowledgeKey.{AcknowledgeKey}
use Rattle.exercise_model.specs.declared.state.Change.{Change}
use Rattle.exercise_model.specs.Entry.{Sent}
use Rattle.exercise_model.specs.Recording.{PlainRecording}
use Rattle.exercise_model.specs.Meaning.{meaning}
use Rattle.exercise_model.specs.History.{Send, Get, History, log_at, station_at}
use Rattle.exercise_model.specs.Change.{key_of, is_change}
use Rattle.exercise_model.specs.State.{state_made, scope_has, change_of, state_after}
use Rattle.exercise_model.specs.Cause.{is_hopeless}
use Rattle.exercise_model.specs.Place.{log_before}
use Rattle.exercise_model.specs.Run.{Contains, Represents}
use Rattle.exercise_model.specs.Account.{sender_of, change_behind}
use Rattle.exercise_model.specs.Headline.{HadRequest}
use Rattle.exercise_model.specs.Pairing.{ReceivesAble}

-- the state of entity e of station s after a history; every number outside 1 to 0xFFFD is Absent
abbrev pub state_in : PlainRecording → ℕ → History → ℕ → EntityState
state_in r s h e = state_after r.setting.exercise (station_at r s) (log_at s h) e

-- THE EFFECT OF A REQUEST of a kind on an entity: state y before and z after. No Acknowledge answers a request of
-- another kind.
abbrev pub Makes : Kind → EntityState → EntityState → Type 0
Makes kinds.CreateEntity y z = z ≡ Stopped
Makes kinds.RemoveEntity y z = z ≡ Absent
Makes kinds.StartResume y z = (y ≡ Absent → z ≡ Absent) × (y ≢ Absent → z ≡ Running)
Makes kinds.StopFreeze y z = (y ≡ Absent → z ≡ Absent) × (y ≢ Absent → z ≡ Stopped)
Makes kind y z = ⊥

-- entry n sends a Change of station t under the key k: an Able Acknowledge, with no Able under the key before it in
-- the station's log
pub record SendsChange (r : PlainRecording) (t : ℕ) (k : AcknowledgeKey) (n : ℕ) : Type 0 where
  pub stamp : ℕ
  pub bytes : List ℕ
  pub pdu : Pdu
  pub at : slice_get r.entries n ≡ Some (Sent t stamp bytes)
  pub meant : meaning r.setting.exercise bytes ≡ Some pdu
  pub under : key_of pdu ≡ Some k
  pub change : is_change r.setting.exercise pdu (log_before r t n) ≡ true

-- in the history h, right after `place`, station t makes a Change under the key k: it sends a datagram of these bytes, which means the
-- Able Acknowledge a, and it sent no Able under the key before
pub record MakesChange (r : PlainRecording) (h : History) (t : ℕ) (k : AcknowledgeKey) (place : History) (bytes : List ℕ) (a : Pdu) : Type 0 where
  pub sent : Contains h place (Send t bytes)
  pub meant : meaning r.setting.exercise bytes ≡ Some a
  pub under : key_of a ≡ Some k
  pub change : is_change r.setting.exercise a (log_at t place) ≡ true

-- THE EFFECT OF A CHANGE c on the entities of station t, which sent its Acknowledge in these bytes right after
-- `place`
pub record IsCarriedOut (r : PlainRecording) (t : ℕ) (place : History) (bytes : List ℕ) (c : Change) : Type 0 where
  -- it could be made: the one entity to be created was Absent, the one to be removed, started or stopped was not, and
  -- no Create was for all
  pub possible : is_hopeless c.kind c.scope (state_in r t place) ≡ false
  -- right after it every entity in the scope has the state that the request makes of the state just before
  pub states : (e : ℕ) → scope_has c.scope e ≡ true → state_in r t (Send t bytes ∷ place) e ≡ state_made c.kind (state_in r t place e)
  -- which is, kind by kind: Stopped, Absent, Running or Stopped, where Start and Stop leave an Absent one Absent
  pub by_kind : (e : ℕ) → scope_has c.scope e ≡ true → Makes c.kind (state_in r t place e) (state_in r t (Send t bytes ∷ place) e)
  -- and the state of every other entity is unchanged
  pub others : (e : ℕ) → scope_has c.scope e ≡ false → state_in r t (Send t bytes ∷ place) e ≡ state_in r t place e

-- KNOWLEDGE OF ENTRY j in the run h where an Able p is received after `before`
pub record IsKnown (r : PlainRecording) (h before : History) (p : Pdu) (j : ℕ) : Type 0 where
  -- the recorded station that sent p, and the key of p
  pub station : ℕ
  pub sender : sender_of r p ≡ Some station
  pub key : AcknowledgeKey
  pub under : key_of p ≡ Some key
  -- before p was received that station had made the Change of this key, and entry j is that event
  pub earlier : History
  pub bytes : List ℕ
  pub acknowledge : Pdu
  pub made : MakesChange r before station key earlier bytes acknowledge
  pub stands : Represents r j earlier (Send station bytes)
  -- before the Change it had received the request that the Change takes up and answers
  pub had : HadRequest r earlier station acknowledge
  -- the effect of the Change on its entities is that of this request, in the scope of the request's receiving and the
  -- Acknowledge's originating number
  pub carried_out : IsCarriedOut r station earlier bytes (change_of acknowledge had.request)
  -- no other event of that station in the run is a Change under this key
  pub alone : (place : History) (b : List ℕ) (a : Pdu) → MakesChange r h station key place b a → (place ≡ earlier) × (b ≡ bytes)
  -- nor is another entry of it: entry j is one, and the only one
  pub entry : SendsChange r station key j
  pub only : (n : ℕ) → SendsChange r station key n → n ≡ j

-- Entry i receives an Able from a recorded station, and there, in the run h, entry j is known as the Change behind it.
pub record IsKnownAt (r : PlainRecording) (h : History) (i j : ℕ) : Type 0 where
  pub able : ReceivesAble r i
  pub before : History
  pub received : Contains h before (Get able.station able.bytes)
  pub stands : Represents r i before (Get able.station able.bytes)
  pub known : IsKnown r h before able.pdu j

-- KNOWLEDGE IN A RUN: each entry that receives an Able from a recorded station has a change behind it, which is known
-- there in the run h; and no other entry has a change behind it
pub record Knows (r : PlainRecording) (h : History) : Type 0 where
  pub each : (i : ℕ) → ReceivesAble r i → (j : ℕ) × (change_behind r i ≡ Some j) × IsKnownAt r h i j
  pub no_others : (i j : ℕ) → change_behind r i ≡ Some j → IsKnownAt r h i j
