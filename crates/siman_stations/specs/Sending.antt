-- What the manager of a station sends: new orders, and repeats that are due (profile).
use Rattle.std.specs.Prelude.{◌≡◌, ℕ, length, Option, None}
use Rattle.siman_pdus.specs.declared.pdu.Pdu.{Pdu}
use Rattle.siman_pdus.specs.Ranges.{IsEntityIdInRange, IsBodyInRange}
use Rattle.siman_manager.specs.declared.order.Order.{Order}
use Rattle.siman_manager.specs.Answers.{refusal_of, reported_by, with_orders, ticked}
use Rattle.siman_manager.specs.Book.{Book, numbered, order_pdu, next_id, repeated, with_order}
use Rattle.siman_stations.specs.declared.moment.Moment.{Moment}
use Rattle.siman_stations.specs.declared.sending.OrderTextFault.{OrderTextFault}
use Rattle.siman_stations.specs.declared.sending.OrderTextFault.TheVariants as text_faults
use Rattle.siman_stations.specs.declared.turn.Node.{Node}

-- the numbers of an order are in range: those of its receiving identifier and of its body, whose own request
-- identifier is ignored
pub record IsOrderInRange (order : Order) : Type 0 where
  pub target : IsEntityIdInRange order.target
  pub body : IsBodyInRange (numbered 0 order.body)

-- the PDU of the next order, with this timestamp
abbrev pub next_order : Book → ℕ → Order → Pdu
next_order b stamp order = order_pdu b.settings (next_id b.settings (length b.orders)) order stamp

-- the node after an order was made
abbrev pub after_order : Node → Moment → Order → Node
after_order n at order = record n { manager = with_orders n.manager (with_order n.manager.settings order at.now at.stamp n.manager.orders) }

-- the repeat that is due
abbrev pub next_repeat : Book → Moment → Option Pdu
next_repeat b at = repeated b.settings at.now at.stamp b.orders

-- the node after a tick
abbrev pub after_tick : Node → Moment → Node
after_tick n at = record n { manager = ticked n.manager at.now at.stamp }

-- the effect of a failed order: the node is unchanged, if the order was refused; otherwise the manager has it
abbrev pub FailsOrder : Moment → Order → Node → Node → OrderTextFault → Type 0
FailsOrder at order old new (text_faults.Order fault) = (new ≡ old) × (refusal_of old.manager order at.stamp ≡ reported_by fault)
FailsOrder at order old new text_faults.Memory =
    (new ≡ after_order old at order) × (refusal_of old.manager order at.stamp ≡ None) × IsOrderInRange order
