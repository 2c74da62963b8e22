-- it is told
use Rattle.siman_operator.proofs.came.put_output.Goals as goal

pub returns-then-failed : goal.returns-then-failed
returns-then-failed g c = rw c.if-failed.true c.put.ensures
