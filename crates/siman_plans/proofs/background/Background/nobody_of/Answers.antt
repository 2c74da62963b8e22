-- the receiver, unless it is that of a station
use Rattle.siman_plans.proofs.background.Background.nobody_of.Goals as goal

pub returns-in-Some : goal.returns-in-Some
returns-in-Some c = rw c.in-Some.is (rw c.addresses_any.ensures at c.unless.ensures)
