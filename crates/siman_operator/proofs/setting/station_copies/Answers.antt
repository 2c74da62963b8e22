-- one station more
use Rattle.std.proofs.Common.{arith}
use Rattle.std.proofs.lemmas.Grind.{common_steps}
use Rattle.siman_operator.proofs.setting.station_copies.Goals as goal

pub loop-station-preserved : goal.loop-station-preserved
loop-station-preserved c = grind (arith, common_steps) steps 2000000

pub returns : goal.returns
returns c = grind (arith, common_steps) steps 2000000
