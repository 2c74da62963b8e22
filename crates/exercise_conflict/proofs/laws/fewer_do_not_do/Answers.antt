use Rattle.exercise_conflict.proofs.Fewer.{fewer_do_not}
use Rattle.exercise_conflict.proofs.laws.fewer_do_not_do.Goals as goal

pub returns : goal.returns
returns c = fewer_do_not
