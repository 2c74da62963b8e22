use Rattle.std.proofs.Common.{arith}
use Rattle.std.proofs.lemmas.Grind.{common_steps}
use Rattle.siman_stations.proofs.world.copy_of.Goals as goal

pub loop-datum-preserved : goal.loop-datum-preserved
loop-datum-preserved c = grind (arith, common_steps)

pub returns : goal.returns
returns c = grind (arith, common_steps)
