-- it is told of whom
use Rattle.siman_operator.proofs.came.put_any_warning.Goals as goal

pub returns-in-Some : goal.returns-in-Some
returns-in-Some g c = rw c.in-Some.is c.put_warning.ensures
