use Rattle.exercise_conflict.proofs.Ways.{ways_end}
use Rattle.exercise_conflict.proofs.laws.ways_end.Goals as goal

pub returns : goal.returns
returns c = ways_end
