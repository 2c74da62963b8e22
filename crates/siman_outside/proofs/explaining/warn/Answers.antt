-- It is told, or a prefix of it.
use Rattle.siman_outside.proofs.explaining.warn.Goals as goal

pub returns-in-Some : goal.returns-in-Some
returns-in-Some g c = rw c.in-Some.is (c.put_warning.result, c.put_warning.ensures)
