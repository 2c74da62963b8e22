use Rattle.std.proofs.Common.{arith}
use Rattle.std.proofs.lemmas.Grind.{common_steps}
use Rattle.siman_lines.proofs.left.left_out.Goals as goal

pub overflow_add-busy : goal.overflow_add-busy
overflow_add-busy g c = grind (arith, common_steps)

pub loop-station-preserved : goal.loop-station-preserved
loop-station-preserved g c = grind (arith, common_steps)

pub returns : goal.returns
returns g c = grind (arith, common_steps)
