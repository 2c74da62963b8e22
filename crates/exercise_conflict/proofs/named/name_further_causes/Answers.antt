use Rattle.std.proofs.Common.{arith}
use Rattle.std.proofs.lemmas.Grind.{common_steps}
use Rattle.exercise_conflict.proofs.named.name_further_causes.Goals as goal

pub loop-also-preserved : goal.loop-also-preserved
loop-also-preserved c = grind (arith, common_steps)

pub returns : goal.returns
returns c = grind (arith, common_steps)
