use Rattle.exercise_conflict.proofs.Nowhere.{nowhere_explained}
use Rattle.exercise_conflict.proofs.laws.nowhere_else.Goals as goal

pub returns : goal.returns
returns c = λ r wide h limits good none further explains. nowhere_explained r wide h limits good none.0 none.1 none.2 further explains
