-- another station is named
use Rattle.siman_operator.proofs.came.put_why_refused.Goals as goal

pub returns-in-UnknownStation : goal.returns-in-UnknownStation
returns-in-UnknownStation g c = rw c.in-UnknownStation.is (rw c.of_other.ensures at c.put_told-in-UnknownStation.ensures)
