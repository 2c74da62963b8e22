-- the one row of a delivery that is astray
use Rattle.siman_plans.proofs.closing_rows.put_astray.Goals as goal

pub returns-then-is_astray : goal.returns-then-is_astray
returns-then-is_astray c = rw c.if-is_astray.true (rw c.of-name.ensures at c.put_one.ensures)
