use Rattle.exercise_conflict.proofs.Stands.{own_stays}
use Rattle.exercise_conflict.proofs.laws.own_causes_stay.Goals as goal

pub returns : goal.returns
returns c = own_stays
