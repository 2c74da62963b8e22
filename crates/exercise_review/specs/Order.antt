-- Orders: requests, each identified by its head, its first entry (profile, over the requests of IEEE 1278.1-2012,
-- 5.6.5).
use Rattle.std.specs.Prelude.{ℕ, length, Bool, false, ◌&&◌, not, nat_lt, Option, Some, None, is_some, option_map, option_and_then, slice_get, if◌then◌else◌}
use Rattle.std.specs.Option.{option_map_or}
use Rattle.dis_records.specs.Entity.{is_addressed}
use Rattle.siman_pdus.specs.declared.pdu.Pdu.{Pdu}
use Rattle.siman_pdus.specs.Role.{is_request_body, request_id_of}
use Rattle.siman_pdus.specs.Answers.{same_id}
use Rattle.siman_pdus.specs.Same.{is_same_order}
use Rattle.siman_pdus.specs.Reading.{pdu_of}
use Rattle.exercise_model.specs.Entry.{Entry, Sent, Received, Told}
use Rattle.exercise_model.specs.Recording.{PlainRecording}
use Rattle.exercise_model.specs.History.{station_at}
use Rattle.exercise_model.specs.Setting.{is_open, is_recorded}
use Rattle.exercise_model.specs.Meaning.{meaning}
use Rattle.exercise_model.specs.Place.{first_below}
use Rattle.exercise_review.specs.declared.order.RecordedOrder.{RecordedOrder}
use Rattle.exercise_review.specs.Counted.{count_below}
use Rattle.exercise_review.specs.Entries.{pdu_sent, pdu_received}

-- an order: its head, the recorded station that made it (none if it is from outside), and its request
pub record OrderData : Type 0 where
  pub head : ℕ
  pub maker : Option ℕ
  pub request : Pdu

-- the order that a value of the code represents
abbrev pub order_of : RecordedOrder → OrderData
order_of o = record { head = o.head; maker = o.maker; request = pdu_of o.request }

-- ---- entries with equal orders

-- entry i sends the order of p from station s: in all but timestamp and status it is p
unfoldable pub sends_order : PlainRecording → ℕ → Pdu → ℕ → Bool
sends_order r s p i = option_map_or (is_same_order p) (pdu_sent r s i) false

-- entry i receives the order of p at station s
unfoldable pub gets_order : PlainRecording → ℕ → Pdu → ℕ → Bool
gets_order r s p i = option_map_or (is_same_order p) (pdu_received r s i) false

-- an entry receives the order of p, at any station
abbrev pub entry_gets : ℕ → Pdu → Entry → Bool
entry_gets x p (Sent s stamp b) = false
entry_gets x p (Received s stamp b) = option_map_or (is_same_order p) (meaning x b) false
entry_gets x p (Told s e y) = false

unfoldable pub gets_anywhere : PlainRecording → Pdu → ℕ → Bool
gets_anywhere r p i = option_map_or (entry_gets r.setting.exercise p) (slice_get r.entries i) false

-- ---- PDUs from outside

-- p IS FROM OUTSIDE: the recording is open, so unrecorded stations may have taken part, and p has one of them as its
-- origin
unfoldable pub is_outside : PlainRecording → Pdu → Bool
is_outside r p = is_open r.setting.form && not (is_recorded r.setting p)

-- p addresses the recorded station s
unfoldable pub is_meant : PlainRecording → Pdu → ℕ → Bool
is_meant r p s = nat_lt s (length r.setting.stations) && is_addressed p.target (station_at r s).address

-- p addresses a recorded station
unfoldable pub is_for_station : PlainRecording → Pdu → Bool
is_for_station r p = is_some (first_below (is_meant r p) (length r.setting.stations))

-- ---- heads

-- the head of a request of station s: the first entry at which it sends the order
abbrev pub sent_head : PlainRecording → ℕ → Pdu → Option ℕ
sent_head r s p = if is_request_body p.body then first_below (sends_order r s p) (length r.entries) else None

-- the head of a request from outside to a recorded station: the first entry at which any station receives the order
abbrev pub received_head : PlainRecording → Pdu → Option ℕ
received_head r p = if is_request_body p.body && (is_outside r p && is_for_station r p) then first_below (gets_anywhere r p) (length r.entries) else None

abbrev pub head_of_entry : PlainRecording → Entry → Option ℕ
head_of_entry r (Sent s stamp b) = option_and_then (sent_head r s) (meaning r.setting.exercise b)
head_of_entry r (Received s stamp b) = option_and_then (received_head r) (meaning r.setting.exercise b)
head_of_entry r (Told s e y) = None

-- THE HEAD OF AN ENTRY: if it sends a request, or receives one from outside, the first entry of that order
unfoldable pub head_of : PlainRecording → ℕ → Option ℕ
head_of r i = option_and_then (head_of_entry r) (slice_get r.entries i)

-- ---- orders

-- the order with head i, where p was sent by a recorded station (some maker) or is from outside (none)
abbrev pub made_by : ℕ → Option ℕ → Pdu → OrderData
made_by i maker p = record { head = i; maker = maker; request = p }

abbrev pub order_of_entry : PlainRecording → ℕ → Entry → Option OrderData
order_of_entry r i (Sent s stamp b) = option_map (made_by i (Some s)) (meaning r.setting.exercise b)
order_of_entry r i (Received s stamp b) = option_map (made_by i None) (meaning r.setting.exercise b)
order_of_entry r i (Told s e y) = None

-- THE ORDER AT ENTRY i: exists if the entry is its own head
unfoldable pub order_at : PlainRecording → ℕ → Option OrderData
order_at r i = if same_id (head_of r i) (Some i) then option_and_then (order_of_entry r i) (slice_get r.entries i) else None

-- HOW OFTEN AN ORDER WAS SENT: the number of entries at which its maker sends it; 0 for an order from outside, whose
-- sends are in no log
unfoldable pub sends_of : PlainRecording → OrderData → ℕ
sends_of r o = option_map_or (λ s. count_below (sends_order r s o.request) (length r.entries)) o.maker 0

-- entry i sends a request of station s under the identifier of p
unfoldable pub sends_under_id : PlainRecording → ℕ → Pdu → ℕ → Bool
sends_under_id r s p i = option_map_or (λ q. is_request_body q.body && same_id (request_id_of p.body) (request_id_of q.body)) (pdu_sent r s i) false

-- o is the first order of its maker under its identifier
unfoldable pub is_first_under_id : PlainRecording → OrderData → Bool
is_first_under_id r o = option_map_or (λ s. same_id (first_below (sends_under_id r s o.request) (length r.entries)) (Some o.head)) o.maker false
