use Rattle.exercise_model.proofs.Offered.{account_steps}
use Rattle.std.proofs.Common.{arith}
use Rattle.exercise_review.proofs.tally.counts_of_stations.Goals as goal

pub loop-station-init : goal.loop-station-init
loop-station-init g c = grind (arith, account_steps)

pub loop-station-preserved : goal.loop-station-preserved
loop-station-preserved g c = grind (arith, account_steps)
