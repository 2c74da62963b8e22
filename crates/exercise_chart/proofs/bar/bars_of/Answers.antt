use Rattle.exercise_chart.proofs.Lists.{list_steps}
use Rattle.exercise_chart.specs.Bar.{bars_of, all_undrawn}
use Rattle.std.proofs.Common.{arith}
use Rattle.exercise_chart.proofs.bar.bars_of.Goals as goal

pub loop-station-init : goal.loop-station-init
unfolding bars_of all_undrawn
loop-station-init g c = grind (arith, list_steps)

pub loop-station-preserved : goal.loop-station-preserved
unfolding bars_of all_undrawn
loop-station-preserved g c = grind (arith, list_steps)
