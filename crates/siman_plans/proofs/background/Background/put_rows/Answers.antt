-- the row of a delivery
use Rattle.siman_plans.proofs.background.Background.put_rows.Goals as goal

pub returns-in-Brought : goal.returns-in-Brought
returns-in-Brought c = rw c.in-Brought.is c.put_delivery.ensures
