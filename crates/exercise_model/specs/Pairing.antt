-- Events in a run of the entries that a recording pairs, read from the logs alone (profile).
use Rattle.std.specs.Prelude.{◌≡◌, ℕ, List, Some, None, slice_get, is_some, true, false}
use Rattle.siman_pdus.specs.declared.pdu.Pdu.{Pdu}
use Rattle.exercise_model.specs.declared.acknowledge.AcknowledgeKey.{AcknowledgeKey}
use Rattle.exercise_model.specs.Entry.{Sent, Received}
use Rattle.exercise_model.specs.Recording.{PlainRecording}
use Rattle.exercise_model.specs.Setting.{is_recorded}
use Rattle.exercise_model.specs.Meaning.{meaning}
use Rattle.exercise_model.specs.History.{Send, Get, History, log_at, station_at}
use Rattle.exercise_model.specs.Exchange.{is_answer_body, request_brought, request_taken_up}
use Rattle.exercise_model.specs.Change.{able, responds, key_of, sends_under, was_acknowledged}
use Rattle.exercise_model.specs.Run.{Contains, Represents}
use Rattle.exercise_model.specs.Account.{sender_of}

-- entry j is, in the history `before`, the first Get of station s with a request that its answer p may take up
pub record IsTakenUp (r : PlainRecording) (before : History) (s : ℕ) (p : Pdu) (j : ℕ) : Type 0 where
  pub bytes : List ℕ
  pub earlier : History
  pub received : Contains before earlier (Get s bytes)
  pub stands : Represents r j earlier (Get s bytes)
  pub brings : is_some (request_brought r.setting.exercise (station_at r s).address p (Get s bytes)) ≡ true
  pub first : request_taken_up r.setting.exercise (station_at r s).address p (log_at s earlier) ≡ None

-- entry j is, in the history h, the first Send of station t of an Able under the key k
pub record IsFirstAbleSent (r : PlainRecording) (h : History) (t : ℕ) (k : AcknowledgeKey) (j : ℕ) : Type 0 where
  pub bytes : List ℕ
  pub earlier : History
  pub sent : Contains h earlier (Send t bytes)
  pub stands : Represents r j earlier (Send t bytes)
  pub sends : sends_under r.setting.exercise able k (Send t bytes) ≡ true
  pub first : was_acknowledged r.setting.exercise able k (log_at t earlier) ≡ false

-- entry j is, in the history h, the first Able under the key of p that the recorded sender of p sent
pub record IsChangeBehind (r : PlainRecording) (h : History) (p : Pdu) (j : ℕ) : Type 0 where
  pub station : ℕ
  pub key : AcknowledgeKey
  pub sender : sender_of r p ≡ Some station
  pub under : key_of p ≡ Some key
  pub first : IsFirstAbleSent r h station key j

-- entry i sends an answer: an Acknowledge with flag 1 to 4, an Action Response or a Data, that is not "other"
pub record SendsAnswer (r : PlainRecording) (i : ℕ) : Type 0 where
  pub station : ℕ
  pub stamp : ℕ
  pub bytes : List ℕ
  pub pdu : Pdu
  pub at : slice_get r.entries i ≡ Some (Sent station stamp bytes)
  pub meant : meaning r.setting.exercise bytes ≡ Some pdu
  pub answer : is_answer_body pdu.body ≡ true

-- entry i receives an Able Acknowledge from a recorded station
pub record ReceivesAble (r : PlainRecording) (i : ℕ) : Type 0 where
  pub station : ℕ
  pub stamp : ℕ
  pub bytes : List ℕ
  pub pdu : Pdu
  pub at : slice_get r.entries i ≡ Some (Received station stamp bytes)
  pub meant : meaning r.setting.exercise bytes ≡ Some pdu
  pub is_able : responds able pdu ≡ true
  pub recorded : is_recorded r.setting pdu ≡ true
