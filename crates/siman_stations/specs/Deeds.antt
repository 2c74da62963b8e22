-- The log of a station has nothing that it sends or tells with a cause against it, and each request that it sends
-- is an order of its manager (profile). Histories have THE LAST EVENT FIRST.
use Rattle.std.specs.Prelude.{◌≡◌, ℕ, [], ◌∷◌, true, slice_get, Some, None}
use Rattle.siman_pdus.specs.declared.pdu.Pdu.{Pdu}
use Rattle.siman_pdus.specs.Role.{is_request_body}
use Rattle.siman_pdus.specs.Same.{IsSameOrder}
use Rattle.exercise_model.specs.Cause.{send_cause, was_sent, same_state}
use Rattle.exercise_model.specs.History.{History, Send, Get, Tell}
use Rattle.exercise_model.specs.Meaning.{meaning}
use Rattle.exercise_model.specs.Setting.{SettingData, is_from}
use Rattle.exercise_model.specs.State.{state_after}
use Rattle.exercise_model.specs.Station.{StationData}
use Rattle.siman_manager.specs.declared.kept.MadeOrder.{MadeOrder}
use Rattle.siman_manager.specs.Book.{Book}

-- nothing that the log of a station sends or tells has a cause against it, after the events before it
abbrev pub DeedsHaveNoCause : ℕ → StationData → History → Type 0
DeedsHaveNoCause x o [] = Unit {0}
DeedsHaveNoCause x o (Send s b ∷ log) = ((p : Pdu) → meaning x b ≡ Some p → send_cause x o log p ≡ None) × DeedsHaveNoCause x o log
DeedsHaveNoCause x o (Get s b ∷ log) = DeedsHaveNoCause x o log
DeedsHaveNoCause x o (Tell s e y ∷ log) = (same_state y (state_after x o log e) ≡ true) × DeedsHaveNoCause x o log

-- each datagram that is received and is not other was sent before
abbrev pub ReceivesSent : SettingData → History → Type 0
ReceivesSent w [] = Unit {0}
ReceivesSent w (Send s b ∷ h) = ReceivesSent w h
ReceivesSent w (Get s b ∷ h) = ((p : Pdu) → meaning w.exercise b ≡ Some p → was_sent b h ≡ true) × ReceivesSent w h
ReceivesSent w (Tell s e y ∷ h) = ReceivesSent w h

-- A REQUEST THAT IS SENT names the manager's address as its originator, and is the same order as one that the manager has
pub record IsOrdered (k : Book) (p : Pdu) : Type 0 where
  pub from : is_from k.settings.address p ≡ true
  pub order : MadeOrder
  pub number : ℕ
  pub there : slice_get k.orders number ≡ Some order
  pub same : IsSameOrder p order.pdu

abbrev pub RequestsAreOrdered : ℕ → Book → History → Type 0
RequestsAreOrdered x k [] = Unit {0}
RequestsAreOrdered x k (Send s b ∷ log) = ((p : Pdu) → meaning x b ≡ Some p → is_request_body p.body ≡ true → IsOrdered k p) × RequestsAreOrdered x k log
RequestsAreOrdered x k (Get s b ∷ log) = RequestsAreOrdered x k log
RequestsAreOrdered x k (Tell s e y ∷ log) = RequestsAreOrdered x k log
