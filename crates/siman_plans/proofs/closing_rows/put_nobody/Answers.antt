-- the one row of a receiver that is no station's
use Rattle.siman_plans.proofs.closing_rows.put_nobody.Goals as goal

pub returns-in-Some : goal.returns-in-Some
returns-in-Some c = rw c.in-Some.is (rw c.of-name.ensures at c.put_warning.ensures)
