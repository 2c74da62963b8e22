use Rattle.exercise_conflict.proofs.Stands.{final_holds}
use Rattle.exercise_conflict.proofs.laws.final_is_final.Goals as goal

pub returns : goal.returns
returns c = final_holds
