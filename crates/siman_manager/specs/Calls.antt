-- Lists of calls, the latest first: the effect of a manager's steps over them, and, independently, the life of each
-- order, defined without any table.
use Rattle.std.specs.Prelude.{◌≡◌, ◌<◌, ◌≤◌, ◌^◌, ℕ, zero, suc, ◌+◌, ◌-◌, Bool, true, false, ◌&&◌, ◌==◌, nat_le, nat_lt, List, [], ◌∷◌, ◌++◌, length, map, Option, Some, None, option_map, option_to_list, IsTrue, if◌then◌else◌}
use Rattle.dis_records.specs.declared.header.TheConstants.{LARGEST_DATAGRAM}
use Rattle.dis_records.specs.declared.entity.EntityId.{EntityId}
use Rattle.siman_pdus.specs.Spelling.{pdu_size}
use Rattle.siman_pdus.specs.declared.pdu.Pdu.{Pdu}
use Rattle.siman_pdus.specs.Answers.{is_answer_to, same_id}
use Rattle.siman_pdus.specs.Role.{request_id_of, is_request_body}
use Rattle.siman_pdus.specs.Same.{IsSameOrder}
use Rattle.siman_manager.specs.declared.fault.OrderFault.{OrderFault}
use Rattle.siman_manager.specs.declared.kept.MadeOrder.{MadeOrder}
use Rattle.siman_manager.specs.declared.kept.OrderStanding.{OrderStanding}
use Rattle.siman_manager.specs.declared.kept.OrderStanding.TheVariants as standings
use Rattle.siman_manager.specs.declared.order.Order.{Order}
use Rattle.siman_manager.specs.declared.settings.Settings.{Settings}
use Rattle.siman_manager.specs.Book.{order_pdu, next_id, refusal, after_request, after_take, after_tick, repeated, settles, is_waiting, gave_up, with_stamp}

-- a call; a request that was refused for lack of memory is none, since it has no effect
pub data Call : Type 0 where
  Requested : (order : Order) (now stamp : ℕ) → Call
  Came : (pdu : Pdu) → Call
  Ticked : (now stamp : ℕ) → Call

-- each order of these calls is a request
abbrev pub AreRequests : List Call → Type 0
AreRequests [] = Unit {0}
AreRequests (Requested order now stamp ∷ past) = IsTrue (is_request_body order.body) × AreRequests past
AreRequests (Came p ∷ past) = AreRequests past
AreRequests (Ticked now stamp ∷ past) = AreRequests past

-- By the steps.

-- the stored orders after these calls
abbrev pub kept : Settings → List Call → List MadeOrder
kept s [] = []
kept s (Requested order now stamp ∷ past) = after_request (refusal s (length (kept s past)) order stamp) s order now stamp (kept s past)
kept s (Came p ∷ past) = after_take s p (kept s past)
kept s (Ticked now stamp ∷ past) = after_tick s now stamp (kept s past)

abbrev pub made_pdu : Option OrderFault → Pdu → List Pdu
made_pdu (Some fault) p = []
made_pdu None p = p ∷ []

-- the PDUs that these calls returned, the latest first
abbrev pub given_out : Settings → List Call → List Pdu
given_out s [] = []
given_out s (Requested order now stamp ∷ past) =
    made_pdu (refusal s (length (kept s past)) order stamp) (order_pdu s (next_id s (length (kept s past))) order stamp) ++ given_out s past
given_out s (Came p ∷ past) = given_out s past
given_out s (Ticked now stamp ∷ past) = option_to_list (repeated s now stamp (kept s past)) ++ given_out s past

-- Without a table.

abbrev pub one_more : Option OrderFault → ℕ → ℕ
one_more (Some fault) n = n
one_more None n = n + 1

-- how many orders were made
abbrev pub count_made : Settings → List Call → ℕ
count_made s [] = 0
count_made s (Requested order now stamp ∷ past) = one_more (refusal s (count_made s past) order stamp) (count_made s past)
count_made s (Came p ∷ past) = count_made s past
count_made s (Ticked now stamp ∷ past) = count_made s past

-- the time and timestamp of a send of an order
pub record Send : Type 0 where
  pub at : ℕ
  pub stamp : ℕ

-- an order: its PDU as it was made, its sends, the latest first, and its state
pub record Life : Type 0 where
  pub order : Pdu
  pub sends : List Send
  pub standing : OrderStanding

-- the time of the last send
abbrev pub last_at : List Send → ℕ
last_at [] = 0
last_at (send ∷ sends) = send.at

abbrev pub last_stamp : List Send → ℕ
last_stamp [] = 0
last_stamp (send ∷ sends) = send.stamp

-- an order is due if it waits and its last send is at least `wait` ago
abbrev pub is_due_at : Settings → ℕ → Life → Bool
is_due_at s now l = is_waiting l.standing && nat_le s.wait (now - last_at l.sends)

-- an order is ready if it is due and was sent fewer than `tries` times
abbrev pub is_ready_at : Settings → ℕ → Life → Bool
is_ready_at s now l = is_due_at s now l && nat_lt (length l.sends) s.tries

-- the PDU is of the exercise, answers the order and settles it
abbrev pub settles_order : Settings → Pdu → Pdu → Bool
settles_order s order p = if p.exercise == s.exercise then (if is_answer_to p order then settles p.body else false) else false

abbrev pub with_send : ℕ → ℕ → Life → Life
with_send now stamp l = record { order = l.order; sends = record { at = now; stamp = stamp } ∷ l.sends; standing = l.standing }

abbrev pub with_standing : OrderStanding → Life → Life
with_standing standing l = record { order = l.order; sends = l.sends; standing = standing }

-- no number below k passes the test
abbrev pub none_before : (ℕ → Bool) → ℕ → Bool
none_before test zero = true
none_before test (suc k) = if test zero then false else none_before (λ j. test (suc j)) k

abbrev pub passes : {X : Type 0} → (X → Bool) → Option X → Bool
passes test None = false
passes test (Some x) = test x

-- a tick that reaches an order that is due sends it, or gives it up if it was sent `tries` times
abbrev pub life_ticked : Settings → ℕ → ℕ → Life → Life
life_ticked s now stamp l =
    if is_due_at s now l then (if nat_lt (length l.sends) s.tries then with_send now stamp l else with_standing standings.GivenUp l) else l

abbrev pub life_made : Option OrderFault → Pdu → ℕ → ℕ → Bool → Option Life → Option Life
life_made (Some fault) p now stamp is_next l = l
life_made None p now stamp is_next l =
    if is_next then Some (record { order = p; sends = record { at = now; stamp = stamp } ∷ []; standing = standings.Waiting }) else l

-- the k-th order, from 0, after these calls, if it was made by then
abbrev pub life : Settings → List Call → ℕ → Option Life
life s [] k = None
-- the order after n others is the n-th
life s (Requested order now stamp ∷ past) k =
    life_made (refusal s (count_made s past) order stamp) (order_pdu s (next_id s (count_made s past)) order stamp) now stamp (k == count_made s past) (life s past k)
-- a PDU that settles it makes it answered
life s (Came p ∷ past) k = option_map (λ l. if settles_order s l.order p then with_standing standings.Answered l else l) (life s past k)
-- a tick reaches it if no order before it is ready
life s (Ticked now stamp ∷ past) k =
    option_map (λ l. if none_before (λ j. passes (is_ready_at s now) (life s past j)) k then life_ticked s now stamp l else l) (life s past k)

-- the stored order of a life: its PDU as it was last sent, the number of its sends, the time of the last, and its
-- state
abbrev pub made_order : Life → MadeOrder
made_order l = record { pdu = with_stamp (last_stamp l.sends) l.order; sends = length l.sends; last = last_at l.sends; standing = l.standing }

-- the PDUs that an order was sent as, the latest first
abbrev pub sent_as : Option Life → List Pdu
sent_as None = []
sent_as (Some l) = map (λ send. with_stamp send.stamp l.order) l.sends

-- the PDUs that were received since the k-th order was made, the latest first
abbrev pub received_since : Settings → List Call → ℕ → List Pdu
received_since s [] k = []
received_since s (Requested order now stamp ∷ past) k = received_since s past k
received_since s (Came p ∷ past) k = if nat_lt k (count_made s past) then p ∷ received_since s past k else []
received_since s (Ticked now stamp ∷ past) k = received_since s past k

-- the PDU has this request identifier
abbrev pub has_id : ℕ → Pdu → Bool
has_id id p = same_id (request_id_of p.body) (Some id)

-- the originator of a manager's PDUs: its address, entity number 0
abbrev pub manager_id : Settings → EntityId
manager_id s = record { site = s.address.site; application = s.address.application; entity = 0 }

-- the PDU is that of the k-th order: it has the k-th identifier from `first_id` on, fits a datagram, is of the
-- exercise, and from the manager
pub record IsOrder (s : Settings) (k : ℕ) (p : Pdu) : Type 0 where
  pub id : request_id_of p.body ≡ Some (s.first_id + k)
  pub below : s.first_id + k < 2 ^ 32
  pub size : pdu_size p ≤ LARGEST_DATAGRAM
  pub exercise : p.exercise ≡ s.exercise
  pub origin : p.origin ≡ manager_id s

-- the PDU has the identifier of one of the first n orders
abbrev pub IsOfOrder : Settings → ℕ → Pdu → Type 0
IsOfOrder s n p = (k : ℕ) × (k < n) × (request_id_of p.body ≡ Some (s.first_id + k))

-- the PDU is a send of the order that was first sent as `first`: the same order, from the manager
pub record IsSendOf (s : Settings) (first p : Pdu) : Type 0 where
  pub same : IsSameOrder p first
  pub origin : p.origin ≡ manager_id s

abbrev pub is_answered : OrderStanding → Bool
is_answered standings.Waiting = false
is_answered standings.Answered = true
is_answered standings.GivenUp = false

abbrev pub is_given_up_life : Life → Bool
is_given_up_life l = gave_up l.standing

-- how many numbers below n pass the test
abbrev pub count_below : (ℕ → Bool) → ℕ → ℕ
count_below test zero = 0
count_below test (suc n) = if test zero then suc (count_below (λ j. test (suc j)) n) else count_below (λ j. test (suc j)) n

-- the PDU answers no order
abbrev pub AnswersNone : Settings → List Call → Pdu → Type 0
AnswersNone s past p = (k : ℕ) (l : Life) → life s past k ≡ Some l → is_answer_to p l.order ≡ false
