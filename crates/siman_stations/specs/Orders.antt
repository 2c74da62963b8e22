-- The orders of a station: the conditions of the calls that make them, and which orders its log sends (profile).
-- Lists have the latest first.
use Rattle.std.specs.Prelude.{◌≡◌, ◌<◌, ◌^◌, ℕ, List, [], ◌∷◌, true, Option, Some, option_and_then}
use Rattle.std.specs.List.{AllByRecursion}
use Rattle.siman_pdus.specs.declared.pdu.Pdu.{Pdu}
use Rattle.siman_pdus.specs.Role.{is_request_body}
use Rattle.siman_pdus.specs.Same.{IsSameOrder}
use Rattle.exercise_model.specs.History.{Event, Send, Get, Tell, History}
use Rattle.exercise_model.specs.Meaning.{meaning}
use Rattle.exercise_model.specs.Place.{first_below}
use Rattle.siman_manager.specs.declared.order.Order.{Order}
use Rattle.siman_manager.specs.declared.settings.Settings.{Settings}
use Rattle.siman_manager.specs.Calls.{Call, Requested, Came, Ticked, Life, life, count_made, is_ready_at, passes}
use Rattle.siman_stations.specs.Sending.{IsOrderInRange}

-- the conditions of an order that is made with this timestamp
pub record IsFit (order : Order) (stamp : ℕ) : Type 0 where
  pub request : is_request_body order.body ≡ true
  pub range : IsOrderInRange order
  pub stamp_is : stamp < 2 ^ 32

-- each order of these calls meets its conditions
abbrev pub AreFit : List Call → Type 0
AreFit [] = Unit {0}
AreFit (Requested order now stamp ∷ past) = IsFit order stamp × AreFit past
AreFit (Came p ∷ past) = AreFit past
AreFit (Ticked now stamp ∷ past) = AreFit past

-- the request is the same order as one that the manager made
pub record IsOfLife (settings : Settings) (past : List Call) (q : Pdu) : Type 0 where
  pub number : ℕ
  pub life_is : Life
  pub there : life settings past number ≡ Some life_is
  pub same : IsSameOrder q life_is.order

-- each request that an event sends is the same order as one that the manager made
abbrev pub SendsOwnOrder : Settings → List Call → ℕ → Event → Type 0
SendsOwnOrder settings past x (Send s b) = (q : Pdu) → meaning x b ≡ Some q → is_request_body q.body ≡ true → IsOfLife settings past q
SendsOwnOrder settings past x (Get s b) = Unit {0}
SendsOwnOrder settings past x (Tell s e y) = Unit {0}

abbrev pub SendOwnOrders : Settings → List Call → ℕ → History → Type 0
SendOwnOrders settings past x log = AllByRecursion (SendsOwnOrder settings past x) log

-- the order that these calls leave ready to be sent again: the first, in order of making, that waits, is due, and
-- was sent fewer than `tries` times
abbrev pub ready_after : Settings → List Call → ℕ → Option Life
ready_after settings calls now =
    option_and_then (life settings calls) (first_below (λ k. passes (is_ready_at settings now) (life settings calls k)) (count_made settings calls))
