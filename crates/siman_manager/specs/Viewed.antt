-- An order of a manager, as it stands.
use Rattle.std.specs.Prelude.{ℕ}
use Rattle.siman_pdus.specs.declared.pdu.Pdu.{Pdu}
use Rattle.siman_manager.specs.Book.{status_of}
use Rattle.siman_manager.specs.declared.kept.MadeOrder.{MadeOrder}
use Rattle.siman_manager.specs.declared.order.OrderStatus.{OrderStatus}
use Rattle.siman_manager.specs.declared.order.OrderView.{OrderView}

-- its PDU as it was last sent, how often it was sent, when it was last sent, and its state
pub record OrderStands : Type 0 where
  pub pdu : Pdu
  pub sends : ℕ
  pub last : ℕ
  pub status : OrderStatus

-- what a view shows
abbrev pub viewed : OrderView → OrderStands
viewed v = record { pdu = v.pdu.now; sends = v.sends; last = v.last; status = v.status }

-- an order as it stands
abbrev pub view_of : MadeOrder → OrderStands
view_of k = record { pdu = k.pdu; sends = k.sends; last = k.last; status = status_of k }
