use Rattle.std.proofs.Common.{arith}
use Rattle.std.proofs.lemmas.Grind.{common_steps}
use Rattle.exercise_check.proofs.report.put_entities.Goals as goal

pub loop-present-preserved : goal.loop-present-preserved
loop-present-preserved c = grind (arith, common_steps)

pub returns : goal.returns
returns c = grind (arith, common_steps)
