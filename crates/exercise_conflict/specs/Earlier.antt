-- The earlier entry of its own station that an entry contradicts (profile).
use Rattle.std.specs.Prelude.{◌≡◌, ◌<◌, ℕ, List, [], ◌∷◌, Bool, false, ◌&&◌, ◌||◌, Option, Some, None, option_and_then, slice_get}
use Rattle.std.specs.Option.{option_map_or}
use Rattle.siman_pdus.specs.declared.pdu.Pdu.{Pdu}
use Rattle.exercise_model.specs.declared.acknowledge.AcknowledgeKey.{AcknowledgeKey}
use Rattle.exercise_model.specs.declared.cause.Cause.{Cause}
use Rattle.exercise_model.specs.declared.cause.Cause.TheVariants.{ReusedIdentifier, WrongAnswer, ChangedAnswer}
use Rattle.exercise_model.specs.Entry.{Entry, Sent, Received, Told}
use Rattle.exercise_model.specs.Recording.{PlainRecording}
use Rattle.exercise_model.specs.History.{Event, station_at}
use Rattle.exercise_model.specs.Meaning.{meaning}
use Rattle.exercise_model.specs.Change.{able, unable, responds, key_of, responds_under}
use Rattle.exercise_model.specs.Cause.{is_other_order, send_cause}
use Rattle.exercise_model.specs.Place.{own_event, first_below}
use Rattle.exercise_model.specs.Account.{pair_of_sent}
use Rattle.exercise_findings.specs.Sent.{meant_by_send}
use Rattle.exercise_findings.specs.Tables.{own_cause}

-- the PDU that station s sends at entry i, if it sends one that is not "other"
unfoldable pub sent_pdu : PlainRecording → ℕ → ℕ → Option Pdu
sent_pdu r s i = option_and_then (meant_by_send r.setting.exercise) (own_event r s i)

-- entry i of station s sends a different request under the request identifier of p
unfoldable pub sends_other_at : PlainRecording → ℕ → Pdu → ℕ → Bool
sends_other_at r s p i = option_map_or (is_other_order p) (sent_pdu r s i) false

-- one of p and q is an Able and the other an Unable, under the key k
abbrev pub is_opposite : Pdu → Pdu → AcknowledgeKey → Bool
is_opposite p q k = (responds able p && responds_under unable k q) || (responds unable p && responds_under able k q)

-- q is the opposite answer to p, under p's key
abbrev pub is_opposite_to : Pdu → Pdu → Bool
is_opposite_to p q = option_map_or (is_opposite p q) (key_of p) false

-- entry i of station s sends the opposite answer to p, under p's key
unfoldable pub sends_opposite_at : PlainRecording → ℕ → Pdu → ℕ → Bool
sends_opposite_at r s p i = option_map_or (is_opposite_to p) (sent_pdu r s i) false

-- station s sends p at entry j
pub record IsSentAt (r : PlainRecording) (j s : ℕ) (p : Pdu) : Type 0 where
  pub stamp : ℕ
  pub bytes : List ℕ
  pub sent : slice_get r.entries j ≡ Some (Sent s stamp bytes)
  pub meant : meaning r.setting.exercise bytes ≡ Some p

-- the earlier entry that p, sent by station s at entry j, contradicts, for this cause
abbrev pub earlier_sent : PlainRecording → ℕ → ℕ → Cause → Pdu → Option ℕ
earlier_sent r j s ReusedIdentifier p = first_below (sends_other_at r s p) j
earlier_sent r j s WrongAnswer p = pair_of_sent r s j p
earlier_sent r j s ChangedAnswer p = first_below (sends_opposite_at r s p) j
earlier_sent r j s cause p = None

abbrev pub earlier_by : PlainRecording → ℕ → Entry → Cause → Option ℕ
earlier_by r j (Sent s stamp b) cause = option_and_then (earlier_sent r j s cause) (meaning r.setting.exercise b)
earlier_by r j (Received s stamp b) cause = None
earlier_by r j (Told s e y) cause = None

abbrev pub earlier_of_entry : PlainRecording → ℕ → Entry → Option ℕ
earlier_of_entry r j e = option_and_then (earlier_by r j e) (own_cause r j)

-- THE EARLIER ENTRY THAT ENTRY j CONTRADICTS: for a reused identifier the first different request under it, for a wrong answer the request that it takes up, for a changed
-- answer the first opposite one under its key, each of them an earlier entry of its station
unfoldable pub earlier_of : PlainRecording → ℕ → Option ℕ
earlier_of r j = option_and_then (earlier_of_entry r j) (slice_get r.entries j)

-- after the event of entry k alone, an earlier one of its station, the PDU that entry j sends has this cause
pub record Contradicts (r : PlainRecording) (j k : ℕ) (cause : Cause) : Type 0 where
  pub station : ℕ
  pub pdu : Pdu
  pub sent : IsSentAt r j station pdu
  pub earlier : k < j
  pub event : Event
  pub own : own_event r station k ≡ Some event
  pub stands : send_cause r.setting.exercise (station_at r station) (event ∷ []) pdu ≡ Some cause

-- after the event of entry k, and before that the receipt of the request that the answer takes up, the PDU that entry j sends has this cause
pub record ContradictsAnswer (r : PlainRecording) (j k : ℕ) (cause : Cause) : Type 0 where
  pub station : ℕ
  pub pdu : Pdu
  pub sent : IsSentAt r j station pdu
  pub earlier : k < j
  pub event : Event
  pub own : own_event r station k ≡ Some event
  pub request : ℕ
  pub asked : Event
  pub taken : pair_of_sent r station j pdu ≡ Some request
  pub got : own_event r station request ≡ Some asked
  pub stands : send_cause r.setting.exercise (station_at r station) (event ∷ asked ∷ []) pdu ≡ Some cause
