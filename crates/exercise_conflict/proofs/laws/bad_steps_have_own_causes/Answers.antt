use Rattle.exercise_conflict.proofs.BadSteps.{bad_own}
use Rattle.exercise_conflict.proofs.laws.bad_steps_have_own_causes.Goals as goal

pub returns : goal.returns
returns c = bad_own
