use Rattle.exercise_conflict.proofs.Rings.{rings_block}
use Rattle.exercise_conflict.proofs.laws.cycles_block.Goals as goal

pub returns : goal.returns
returns c = rings_block
