use Rattle.exercise_review.proofs.Lives.{states_told}
use Rattle.exercise_review.proofs.laws.lives_are_states.Goals as goal

pub returns : goal.returns
returns c = states_told
