use Rattle.exercise_conflict.proofs.Entities.{since_made, since_start}
use Rattle.exercise_conflict.proofs.laws.states_are_made.Goals as goal

pub returns-clause-made : goal.returns-clause-made
returns-clause-made c = since_made

pub returns-clause-start : goal.returns-clause-start
returns-clause-start c = since_start
