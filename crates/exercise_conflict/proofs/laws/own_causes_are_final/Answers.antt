use Rattle.exercise_conflict.proofs.Stands.{own_stands}
use Rattle.exercise_conflict.proofs.laws.own_causes_are_final.Goals as goal

pub returns : goal.returns
returns c = own_stands
