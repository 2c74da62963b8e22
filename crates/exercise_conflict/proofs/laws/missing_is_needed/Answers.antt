use Rattle.exercise_conflict.proofs.Lacking.{needed}
use Rattle.exercise_conflict.proofs.laws.missing_is_needed.Goals as goal

pub returns : goal.returns
returns c = needed
