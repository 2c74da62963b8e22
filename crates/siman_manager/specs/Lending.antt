-- The manager after the borrow of the PDU that it returned has ended.
use Rattle.std.specs.Prelude.{◌≡◌, ℕ, Result}
use Rattle.std.specs.Borrow.{MutBor, Bor, Fml}
use Rattle.std.specs.Io.BufRead.{Rests}
use Rattle.siman_pdus.specs.declared.pdu.Pdu.{Pdu}
use Rattle.siman_manager.specs.declared.fault.OrderFault.{OrderFault}
use Rattle.siman_manager.specs.declared.order.Order.{Order}
use Rattle.siman_manager.specs.Book.{Book}
use Rattle.siman_manager.specs.Answers.{book_after, ticked}
use Rattle.siman_manager.specs.contracts.manager.Manager.{the_row}

abbrev pub EndsRequested : MutBor Book → Order → ℕ → ℕ → Result (ℕ × Bor Pdu) OrderFault → Fml
EndsRequested s order now stamp result = Rests the_row s (λ new. new ≡ book_after s.now order now stamp result)

abbrev pub EndsTicked : MutBor Book → ℕ → ℕ → Fml
EndsTicked s now stamp = Rests the_row s (λ new. new ≡ ticked s.now now stamp)
