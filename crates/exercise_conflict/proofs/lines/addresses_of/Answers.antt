use Rattle.std.proofs.Common.{arith}
use Rattle.std.proofs.lemmas.Grind.{common_steps}
use Rattle.exercise_conflict.proofs.lines.addresses_of.Goals as goal

pub loop-station-preserved : goal.loop-station-preserved
loop-station-preserved g c = grind (arith, common_steps)

pub returns : goal.returns
returns g c = grind (arith, common_steps)
