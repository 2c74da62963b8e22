-- What was read is written.
use Rattle.std.proofs.Common.{inr}
use Rattle.siman_outside.proofs.product.put_of_file.Goals as goal

pub returns-in-Ok : goal.returns-in-Ok
returns-in-Ok g c = inr (c.in-Ok.product, c.in-Ok.ensures, c.put.ensures)
