use Rattle.exercise_chart.proofs.Lists.{list_steps}
use Rattle.exercise_chart.specs.Loss.{losses_of}
use Rattle.std.proofs.Common.{arith}
use Rattle.exercise_chart.proofs.loss.losses_of.Goals as goal

pub loop-number-init : goal.loop-number-init
unfolding losses_of
loop-number-init g c = grind (arith, list_steps)

pub loop-number-preserved : goal.loop-number-preserved
unfolding losses_of
loop-number-preserved g c = grind (arith, list_steps)
