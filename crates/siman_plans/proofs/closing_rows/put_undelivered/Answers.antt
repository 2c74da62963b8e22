-- the one row of an order that is not delivered
use Rattle.siman_plans.proofs.closing_rows.put_undelivered.Goals as goal

pub returns-then-is_missed : goal.returns-then-is_missed
returns-then-is_missed c = rw c.if-is_missed.true (rw c.of-name.ensures at c.put_warning.ensures)
