use Rattle.std.proofs.Common.{arith}
use Rattle.std.proofs.lemmas.Grind.{common_steps}
use Rattle.siman_stations.proofs.world.recording_of.Goals as goal

pub loop-station-preserved : goal.loop-station-preserved
loop-station-preserved c = grind (arith, common_steps)
