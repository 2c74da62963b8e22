use Rattle.std.proofs.Common.{arith}
use Rattle.std.proofs.lemmas.Grind.{common_steps}
use Rattle.siman_exercise_commands.proofs.station.endpoints.Goals as goal

pub loop-others-preserved : goal.loop-others-preserved
loop-others-preserved c = grind (arith, common_steps)

pub returns : goal.returns
returns c = grind (arith, common_steps)
