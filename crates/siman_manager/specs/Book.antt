-- The state of a manager, and one step of it for each call.
use Rattle.std.specs.Prelude.{ℕ, ◌+◌, ◌-◌, ◌^◌, Bool, true, false, ◌&&◌, ◌==◌, nat_le, nat_lt, List, [], ◌∷◌, ◌++◌, length, slice_get, slice_set, find, Option, Some, None, if◌then◌else◌}
use Rattle.std.specs.Option.{option_map}
use Rattle.dis_records.specs.declared.header.TheConstants.{LARGEST_DATAGRAM}
use Rattle.dis_records.specs.declared.header.Version.TheVariants as versions
use Rattle.siman_pdus.specs.declared.pdu.Body.{Body}
use Rattle.siman_pdus.specs.declared.pdu.Body.TheVariants.{CreateEntity, RemoveEntity, StartResume, StopFreeze, Acknowledge, ActionRequest, ActionResponse, DataQuery, SetData, DataPdu, EventReport, Comment}
use Rattle.siman_pdus.specs.declared.pdu.Pdu.{Pdu}
use Rattle.siman_pdus.specs.Answers.{is_answer_to}
use Rattle.siman_pdus.specs.Role.{request_id_of}
use Rattle.siman_pdus.specs.Spelling.{pdu_size}
use Rattle.siman_manager.specs.declared.fault.OrderFault.{OrderFault}
use Rattle.siman_manager.specs.declared.fault.OrderFault.TheVariants as faults
use Rattle.siman_manager.specs.declared.kept.MadeOrder.{MadeOrder}
use Rattle.siman_manager.specs.declared.kept.OrderStanding.{OrderStanding}
use Rattle.siman_manager.specs.declared.kept.OrderStanding.TheVariants as standings
use Rattle.siman_manager.specs.declared.order.Order.{Order}
use Rattle.siman_manager.specs.declared.order.OrderStatus.{OrderStatus}
use Rattle.siman_manager.specs.declared.order.OrderStatus.TheVariants as statuses
use Rattle.siman_manager.specs.declared.order.Taken.{Taken}
use Rattle.siman_manager.specs.declared.order.Taken.TheVariants as taken
use Rattle.siman_manager.specs.declared.settings.Settings.{Settings}

-- the configuration of a manager, and its orders in order of making
pub record Book : Type 0 where
  pub settings : Settings
  pub orders : List MadeOrder

-- Making an order.

-- a request's body with this request identifier; a manager makes no other bodies
abbrev pub numbered : ℕ → Body → Body
numbered id (CreateEntity request) = CreateEntity id
numbered id (RemoveEntity request) = RemoveEntity id
numbered id (StartResume real sim request) = StartResume real sim id
numbered id (StopFreeze real reason behaviour request) = StopFreeze real reason behaviour id
numbered id (Acknowledge flag response request) = Acknowledge flag response request
numbered id (ActionRequest request action datums) = ActionRequest id action datums
numbered id (ActionResponse request status datums) = ActionResponse request status datums
numbered id (DataQuery request interval ids) = DataQuery id interval ids
numbered id (SetData request datums) = SetData id datums
numbered id (DataPdu request datums) = DataPdu request datums
numbered id (EventReport event datums) = EventReport event datums
numbered id (Comment datums) = Comment datums

-- the PDU of an order: version 7, the exercise, status 0, from the manager's address with entity number 0
abbrev pub order_pdu : Settings → ℕ → Order → ℕ → Pdu
order_pdu s id order stamp = record {
  version = versions.V7;
  exercise = s.exercise;
  stamp = stamp;
  status = 0;
  origin = record { site = s.address.site; application = s.address.application; entity = 0 };
  target = order.target;
  body = numbered id order.body;
}

-- the identifier of the next order after so many
abbrev pub next_id : Settings → ℕ → ℕ
next_id s count = s.first_id + count

-- why the next order after so many is not made, whatever memory there is
abbrev pub refusal : Settings → ℕ → Order → ℕ → Option OrderFault
refusal s count order stamp =
    if nat_lt (next_id s count) (2 ^ 32)
    then (if nat_le (pdu_size (order_pdu s (next_id s count) order stamp)) LARGEST_DATAGRAM then None else Some faults.TooLong)
    else Some faults.IdsSpent

-- a new order: sent once
abbrev pub new_order : Pdu → ℕ → MadeOrder
new_order pdu now = record { pdu = pdu; sends = 1; last = now; standing = standings.Waiting }

abbrev pub with_order : Settings → Order → ℕ → ℕ → List MadeOrder → List MadeOrder
with_order s order now stamp orders = orders ++ new_order (order_pdu s (next_id s (length orders)) order stamp) now ∷ []

-- the orders after a request that was not refused for memory
abbrev pub after_request : Option OrderFault → Settings → Order → ℕ → ℕ → List MadeOrder → List MadeOrder
after_request (Some fault) s order now stamp orders = orders
after_request None s order now stamp orders = with_order s order now stamp orders

-- Taking a PDU.

-- whether a body settles: an Acknowledge with the response able (1) or unable (2), an Action Response with a
-- request status other than pending (1), executing (2) and partially complete (3), and a Data always
abbrev pub settles : Body → Bool
settles (CreateEntity request) = false
settles (RemoveEntity request) = false
settles (StartResume real sim request) = false
settles (StopFreeze real reason behaviour request) = false
settles (Acknowledge flag response request) = if response == 1 then true else (response == 2)
settles (ActionRequest request action datums) = false
settles (ActionResponse request status datums) = if status == 1 then false else (if status == 2 then false else (if status == 3 then false else true))
settles (DataQuery request interval ids) = false
settles (SetData request datums) = false
settles (DataPdu request datums) = true
settles (EventReport event datums) = false
settles (Comment datums) = false

-- the order of an identifier
abbrev pub order_of : Settings → List MadeOrder → ℕ → Option MadeOrder
order_of s orders id = if nat_le s.first_id id then slice_get orders (id - s.first_id) else None

abbrev pub taken_after : ℕ → Bool → OrderStanding → Taken
taken_after id settling standings.Answered = taken.Repeat id
taken_after id settling standings.Waiting = if settling then taken.Answered id else taken.Pending id
taken_after id settling standings.GivenUp = if settling then taken.Answered id else taken.Pending id

-- the meaning of a PDU to an order with this identifier
abbrev pub taken_by : ℕ → Pdu → MadeOrder → Taken
taken_by id p k = if is_answer_to p k.pdu then taken_after id (settles p.body) k.standing else taken.Foreign

-- an order after a PDU of the exercise was taken
abbrev pub settled : Pdu → MadeOrder → MadeOrder
settled p k = if is_answer_to p k.pdu then (if settles p.body then record k { standing = standings.Answered } else k) else k

abbrev pub taken_by_found : ℕ → Pdu → Option MadeOrder → Taken
taken_by_found id p None = taken.Foreign
taken_by_found id p (Some k) = taken_by id p k

abbrev pub taken_under : Settings → Pdu → List MadeOrder → Option ℕ → Taken
taken_under s p orders None = taken.Foreign
taken_under s p orders (Some id) = taken_by_found id p (order_of s orders id)

-- the meaning of a received PDU
abbrev pub taken_as : Settings → Pdu → List MadeOrder → Taken
taken_as s p orders = if p.exercise == s.exercise then taken_under s p orders (request_id_of p.body) else taken.Foreign

abbrev pub settled_if : ℕ → Pdu → List MadeOrder → Option MadeOrder → List MadeOrder
settled_if place p orders None = orders
settled_if place p orders (Some k) = slice_set orders place (settled p k)

abbrev pub settled_under : Settings → Pdu → List MadeOrder → Option ℕ → List MadeOrder
settled_under s p orders None = orders
settled_under s p orders (Some id) = settled_if (id - s.first_id) p orders (order_of s orders id)

-- the orders after a PDU was received
abbrev pub after_take : Settings → Pdu → List MadeOrder → List MadeOrder
after_take s p orders = if p.exercise == s.exercise then settled_under s p orders (request_id_of p.body) else orders

-- A tick.

abbrev pub is_waiting : OrderStanding → Bool
is_waiting standings.Waiting = true
is_waiting standings.Answered = false
is_waiting standings.GivenUp = false

-- an order is due if it waits and its last send is at least `wait` ago; if the clock went backwards, no time has
-- passed
abbrev pub is_due : Settings → ℕ → MadeOrder → Bool
is_due s now k = is_waiting k.standing && nat_le s.wait (now - k.last)

-- an order is ready if it is due and may be sent again
abbrev pub is_ready : Settings → ℕ → MadeOrder → Bool
is_ready s now k = is_due s now k && nat_lt k.sends s.tries

abbrev pub with_stamp : ℕ → Pdu → Pdu
with_stamp stamp p = record p { stamp = stamp }

-- an order that is sent again
abbrev pub resent : ℕ → ℕ → MadeOrder → MadeOrder
resent now stamp k = record { pdu = with_stamp stamp k.pdu; sends = k.sends + 1; last = now; standing = k.standing }

-- an order after a tick looked at it
abbrev pub looked_at : Settings → ℕ → ℕ → MadeOrder → MadeOrder
looked_at s now stamp k =
    if is_due s now k
    then (if nat_lt k.sends s.tries then resent now stamp k else record k { standing = standings.GivenUp })
    else k

-- a list whose items are changed in turn, up to and with the first that passes the test
abbrev pub changed_through : {X : Type 0} → (X → Bool) → (X → X) → List X → List X
changed_through test change [] = []
changed_through test change (x ∷ xs) = change x ∷ (if test x then xs else changed_through test change xs)

-- the orders after a tick, which looks at them in turn up to the first that is ready
abbrev pub after_tick : Settings → ℕ → ℕ → List MadeOrder → List MadeOrder
after_tick s now stamp orders = changed_through (is_ready s now) (looked_at s now stamp) orders

-- the PDU that a tick sends: that of the first order that is ready
abbrev pub repeated : Settings → ℕ → ℕ → List MadeOrder → Option Pdu
repeated s now stamp orders = option_map (λ k. with_stamp stamp k.pdu) (find (is_ready s now) orders)

-- States.

abbrev pub status_at : OrderStanding → ℕ → OrderStatus
status_at standings.Waiting sends = statuses.Waiting sends
status_at standings.Answered sends = statuses.Answered
status_at standings.GivenUp sends = statuses.GivenUp

abbrev pub status_of : MadeOrder → OrderStatus
status_of k = status_at k.standing k.sends

abbrev pub gave_up : OrderStanding → Bool
gave_up standings.Waiting = false
gave_up standings.Answered = false
gave_up standings.GivenUp = true

abbrev pub is_given_up : MadeOrder → Bool
is_given_up k = gave_up k.standing
