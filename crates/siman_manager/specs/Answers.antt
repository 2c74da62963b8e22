-- The results of the calls of a manager.
use Rattle.std.specs.Prelude.{ℕ, Option, Some, None, Result, Ok, Err, List, length}
use Rattle.siman_pdus.specs.declared.pdu.Pdu.{Pdu}
use Rattle.siman_manager.specs.declared.fault.OrderFault.{OrderFault}
use Rattle.siman_manager.specs.declared.fault.OrderFault.TheVariants as faults
use Rattle.siman_manager.specs.declared.order.Order.{Order}
use Rattle.siman_manager.specs.declared.kept.MadeOrder.{MadeOrder}
use Rattle.siman_manager.specs.Book.{Book, refusal, with_order, after_tick, after_take}

-- the refusal that a fault is, if any: lack of memory is none
abbrev pub reported_by : OrderFault → Option OrderFault
reported_by faults.IdsSpent = Some faults.IdsSpent
reported_by faults.TooLong = Some faults.TooLong
reported_by faults.Memory = None

-- why the next order is not made, whatever memory there is
abbrev pub refusal_of : Book → Order → ℕ → Option OrderFault
refusal_of b order stamp = refusal b.settings (length b.orders) order stamp

abbrev pub with_orders : Book → List MadeOrder → Book
with_orders b orders = record { settings = b.settings; orders = orders }

-- the book after a request with this result
abbrev pub book_after : {A : Type 0} → Book → Order → ℕ → ℕ → Result A OrderFault → Book
book_after b order now stamp (Ok a) = with_orders b (with_order b.settings order now stamp b.orders)
book_after b order now stamp (Err fault) = b

-- the book after a tick
abbrev pub ticked : Book → ℕ → ℕ → Book
ticked b now stamp = with_orders b (after_tick b.settings now stamp b.orders)

-- the book after a PDU was taken
abbrev pub taken : Book → Pdu → Book
taken b p = with_orders b (after_take b.settings p b.orders)
