-- The contradiction of an entry, and where it is: the other side of the first cause that its station's log shows against it (profile).
use Rattle.std.specs.Prelude.{ℕ, List, length, bytes_eq, Bool, false, ◌&&◌, ◌==◌, not, Option, Some, None, option_map, option_and_then, slice_get, if◌then◌else◌}
use Rattle.std.specs.Option.{option_map_or}
use Rattle.dis_records.specs.declared.entity.Scope.{Scope}
use Rattle.dis_records.specs.declared.entity.Scope.TheVariants.{One, All}
use Rattle.dis_records.specs.declared.entity_state.EntityState.{EntityState}
use Rattle.dis_records.specs.declared.address.SiteApplication.{SiteApplication}
use Rattle.dis_records.specs.Entity.{is_addressed}
use Rattle.siman_pdus.specs.declared.pdu.Pdu.{Pdu}
use Rattle.siman_pdus.specs.Role.{is_request_body, request_id_of}
use Rattle.siman_pdus.specs.Answers.{same_id, same_pair, matches_kind}
use Rattle.siman_pdus.specs.Same.{same_entity, is_same_order}
use Rattle.siman_pdus.specs.Spelling.{body_kind}
use Rattle.dis_records.specs.Kind.{kind_code}
use Rattle.exercise_model.specs.declared.cause.Cause.{Cause}
use Rattle.exercise_model.specs.declared.cause.Cause.TheVariants as causes
use Rattle.exercise_model.specs.declared.state.Change.{Change}
use Rattle.exercise_model.specs.Entry.{Entry, Sent, Received, Told}
use Rattle.exercise_model.specs.Recording.{PlainRecording}
use Rattle.exercise_model.specs.History.{Event, Send, Get, Tell, station_at}
use Rattle.exercise_model.specs.Setting.{is_from}
use Rattle.exercise_model.specs.Station.{is_entity}
use Rattle.exercise_model.specs.Meaning.{meaning}
use Rattle.exercise_model.specs.State.{carried_out}
use Rattle.exercise_model.specs.Place.{own_event, first_below, entry_taken_up}
use Rattle.exercise_model.specs.Account.{pair_of_sent, sender_of}
use Rattle.exercise_findings.specs.Source.{source_of}
use Rattle.exercise_findings.specs.Tables.{own_cause}
use Rattle.exercise_findings.specs.State.{state_before}
use Rattle.exercise_conflict.specs.declared.field.PduField.{PduField}
use Rattle.exercise_conflict.specs.declared.field.PduField.TheVariants as fields
use Rattle.exercise_conflict.specs.declared.clash.Clash.{Clash}
use Rattle.exercise_conflict.specs.declared.clash.Clash.TheVariants as clashes
use Rattle.exercise_conflict.specs.declared.clash.AnswerMismatch.{AnswerMismatch}
use Rattle.exercise_conflict.specs.declared.clash.AnswerMismatch.TheVariants as unfit
use Rattle.exercise_conflict.specs.Difference.{order_difference, pdu_difference}
use Rattle.exercise_conflict.specs.Earlier.{sent_pdu, earlier_sent}
use Rattle.exercise_conflict.specs.Since.{last_change_entry}

-- ---- other entries

-- the PDU that an event receives in exercise x, if it receives one that is not "other"
abbrev pub meant_by_get : ℕ → Event → Option Pdu
meant_by_get x (Send s b) = None
meant_by_get x (Get s b) = meaning x b
meant_by_get x (Tell s e y) = None

-- the PDU that station s receives at entry i
unfoldable pub got_pdu : PlainRecording → ℕ → ℕ → Option Pdu
got_pdu r s i = option_and_then (meant_by_get r.setting.exercise) (own_event r s i)

-- q is a request under the identifier of the answer p, sent by p's receiver
abbrev pub is_asking : Pdu → Pdu → Bool
is_asking p q = is_request_body q.body && (same_id (request_id_of p.body) (request_id_of q.body) && same_pair q.origin p.target)

-- a request for p that does not address the station at a
abbrev pub is_overheard : SiteApplication → Pdu → Pdu → Bool
is_overheard a p q = is_asking p q && not (is_addressed q.target a)

-- entry i delivers to station s a request for p that does not address the station
unfoldable pub overhears_at : PlainRecording → ℕ → Pdu → ℕ → Bool
overhears_at r s p i = option_map_or (is_overheard (station_at r s).address p) (got_pdu r s i) false

-- an entry sends a request for p, under the address of its own station
abbrev pub asks_by : PlainRecording → Pdu → Entry → Bool
asks_by r p (Sent t stamp b) = option_map_or (λ q. is_from (station_at r t).address q && is_asking p q) (meaning r.setting.exercise b) false
asks_by r p (Received t stamp b) = false
asks_by r p (Told t e y) = false

unfoldable pub asks_at : PlainRecording → Pdu → ℕ → Bool
asks_at r p i = option_map_or (asks_by r p) (slice_get r.entries i) false

-- the receiver of the answer p is the station at this address
abbrev pub is_sent_to : SiteApplication → Pdu → Bool
is_sent_to a p = is_from a (record p { origin = p.target })

-- the recorded station that p is sent to
abbrev pub asker_of : PlainRecording → Pdu → Option ℕ
asker_of r p = sender_of r (record p { origin = p.target })

-- ---- sends

-- the contradiction of a reused identifier, given the earlier request at entry k
abbrev pub reused_clash : PlainRecording → ℕ → Pdu → ℕ → Option Clash
reused_clash r s p k = option_map (clashes.ReusedIdentifier k) (option_and_then (order_difference p) (sent_pdu r s k))

-- why the answer p does not answer the request q that it takes up
abbrev pub answer_mismatch : Pdu → Pdu → AnswerMismatch
answer_mismatch p q = if matches_kind p.body (body_kind q.body) then unfit.Entity else unfit.Kind

abbrev pub wrong_answer_clash : PlainRecording → ℕ → Pdu → ℕ → Option Clash
wrong_answer_clash r s p k = option_map (λ q. clashes.WrongAnswer k (answer_mismatch p q)) (got_pdu r s k)

-- the entity number of all entities
abbrev pub all_entities : ℕ
all_entities = 0xFFFF

-- the state under a number before entry j, if an entity can have the number
abbrev pub state_found : PlainRecording → ℕ → ℕ → ℕ → Option EntityState
state_found r s n j = if is_entity n then Some (state_before r s n j) else None

-- the contradiction of an impossible change of this scope, before entry j of station s
abbrev pub hopeless_scope_clash : PlainRecording → ℕ → ℕ → ℕ → Scope → Clash
hopeless_scope_clash r s j k (One n) = clashes.Impossible k s n (state_found r s n j) (last_change_entry r s n j)
hopeless_scope_clash r s j k All = clashes.Impossible k s all_entities None None

abbrev pub hopeless_clash : PlainRecording → ℕ → ℕ → Pdu → ℕ → Pdu → Option Clash
hopeless_clash r s j p k q = option_map (λ (c : Change). hopeless_scope_clash r s j k c.scope) (carried_out p q)

abbrev pub impossible_clash : PlainRecording → ℕ → ℕ → Pdu → ℕ → Option Clash
impossible_clash r s j p k = option_and_then (hopeless_clash r s j p k) (got_pdu r s k)

-- an answer without a request: the first request for it that the station received at any place, that it overheard before, and that the receiver of the answer sent
abbrev pub unasked_clash : PlainRecording → ℕ → ℕ → Pdu → Clash
unasked_clash r s j p = clashes.NoRequest (entry_taken_up r s p (length r.entries)) (first_below (overhears_at r s p) j) (first_below (asks_at r p) (length r.entries))

-- the contradiction of p, sent by station s at entry j, for this cause against it
abbrev pub send_clash : PlainRecording → ℕ → ℕ → Cause → Pdu → Option Clash
send_clash r j s causes.WrongSender p = Some (clashes.WrongSender p.origin s)
send_clash r j s causes.ReusedIdentifier p = option_and_then (reused_clash r s p) (earlier_sent r j s causes.ReusedIdentifier p)
send_clash r j s causes.NoRequest p = Some (unasked_clash r s j p)
send_clash r j s causes.WrongAnswer p = option_and_then (wrong_answer_clash r s p) (earlier_sent r j s causes.WrongAnswer p)
send_clash r j s causes.ChangedAnswer p = option_map clashes.ChangedAnswer (earlier_sent r j s causes.ChangedAnswer p)
send_clash r j s causes.Impossible p = option_and_then (impossible_clash r s j p) (pair_of_sent r s j p)
send_clash r j s cause p = None

-- ---- receipts

-- p and q are similar: of equal kind, receiver and request identifier; or, if their kind has no identifier, equal orders
abbrev pub is_near : Pdu → Pdu → Bool
is_near p q =
    option_map_or (λ id. (kind_code (body_kind p.body) == kind_code (body_kind q.body)) && (same_entity p.target q.target && same_id (Some id) (request_id_of q.body)))
    (request_id_of p.body) (is_same_order p q)

-- station t sends a PDU similar to p at entry i
unfoldable pub sends_near_at : PlainRecording → ℕ → Pdu → ℕ → Bool
sends_near_at r t p i = option_map_or (is_near p) (sent_pdu r t i) false

-- the first entry of p's sender that sends a similar PDU
abbrev pub near_of : PlainRecording → Pdu → Option ℕ
near_of r p = option_and_then (λ t. first_below (sends_near_at r t p) (length r.entries)) (sender_of r p)

-- the differing field, or Padding if no field differs
abbrev pub field_or_padding : Option PduField → PduField
field_or_padding (Some field) = field
field_or_padding None = fields.Padding

-- the first field in which a datagram of the bytes b, which means p, differs from the one that an entry sends; none if the bytes are equal
abbrev pub differs_from : PlainRecording → List ℕ → Pdu → Entry → Option PduField
differs_from r b p (Sent t stamp c) = if bytes_eq b c then None else option_map (λ q. field_or_padding (pdu_difference p q)) (meaning r.setting.exercise c)
differs_from r b p (Received t stamp c) = None
differs_from r b p (Told t e y) = None

abbrev pub differs_at : PlainRecording → List ℕ → Pdu → ℕ → Option PduField
differs_at r b p k = option_and_then (differs_from r b p) (slice_get r.entries k)

-- a datagram that was never sent: its source, its sender's first similar send, and in which field they differ
abbrev pub unsent_clash : PlainRecording → ℕ → List ℕ → Pdu → Clash
unsent_clash r j b p = clashes.NeverSent p.origin (source_of r j) (near_of r p) (option_and_then (differs_at r b p) (near_of r p))

-- the contradiction of an entry j that receives the bytes b, which mean p, for this cause against it
abbrev pub receipt_clash : PlainRecording → ℕ → List ℕ → Cause → Pdu → Option Clash
receipt_clash r j b causes.Stranger p = Some (clashes.Stranger p.origin)
receipt_clash r j b causes.NeverSent p = Some (unsent_clash r j b p)
receipt_clash r j b cause p = None

-- ---- told states

-- the real state of the entity, and the change that made it
abbrev pub told_state_clash : PlainRecording → ℕ → ℕ → ℕ → Cause → Option Clash
told_state_clash r j s n causes.WrongState = Some (clashes.WrongState s n (state_before r s n j) (last_change_entry r s n j))
told_state_clash r j s n cause = None

-- ---- entries

abbrev pub clash_by : PlainRecording → ℕ → Entry → Cause → Option Clash
clash_by r j (Sent s stamp b) cause = option_and_then (send_clash r j s cause) (meaning r.setting.exercise b)
clash_by r j (Received s stamp b) cause = option_and_then (receipt_clash r j b cause) (meaning r.setting.exercise b)
clash_by r j (Told s n y) cause = told_state_clash r j s n cause

abbrev pub clash_of_entry : PlainRecording → ℕ → Entry → Option Clash
clash_of_entry r j e = option_and_then (clash_by r j e) (own_cause r j)

-- THE CONTRADICTION OF ENTRY j: the other side of the first cause that its station's log shows against it, where a receipt is judged as if nothing had been sent
unfoldable pub clash_of : PlainRecording → ℕ → Option Clash
clash_of r j = option_and_then (clash_of_entry r j) (slice_get r.entries j)
