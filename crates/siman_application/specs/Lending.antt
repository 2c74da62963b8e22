-- The application after the borrow of the answer that it returned has ended.
use Rattle.std.specs.Prelude.{Option, Result}
use Rattle.std.specs.Borrow.{MutBor, Bor, Fml}
use Rattle.std.specs.Io.BufRead.{Rests}
use Rattle.siman_pdus.specs.declared.pdu.Pdu.{Pdu}
use Rattle.siman_application.specs.declared.fault.AppFault.{AppFault}
use Rattle.siman_application.specs.Application.{ApplicationData, Leaves}
use Rattle.siman_application.specs.contracts.application.Application.{the_row}

abbrev pub EndsTaken : MutBor ApplicationData → Pdu → Result (Option (Bor Pdu)) AppFault → Fml
EndsTaken s q result = Rests the_row s (λ new. Leaves s.now q result new)
