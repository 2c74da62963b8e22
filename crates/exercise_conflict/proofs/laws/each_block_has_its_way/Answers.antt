use Rattle.exercise_conflict.proofs.Contradictions.{way_there}
use Rattle.exercise_conflict.proofs.laws.each_block_has_its_way.Goals as goal

pub returns : goal.returns
returns c = way_there
