use Rattle.exercise_chart.proofs.Lists.{list_steps}
use Rattle.exercise_chart.specs.Unanswered.{unanswered_of}
use Rattle.std.proofs.Common.{arith}
use Rattle.exercise_chart.proofs.unanswered.unanswered_of.Goals as goal

pub loop-entry-init : goal.loop-entry-init
unfolding unanswered_of
loop-entry-init g c = grind (arith, list_steps)

pub loop-entry-preserved : goal.loop-entry-preserved
unfolding unanswered_of
loop-entry-preserved g c = grind (arith, list_steps)
