use Rattle.exercise_review.proofs.Places.{orders_are_told, orders_of_makers}
use Rattle.std.proofs.Common.{arith}
use Rattle.exercise_review.proofs.tally.counts_by_station.Goals as goal

pub returns : goal.returns
returns g c = grind (arith, orders_of_makers, orders_are_told)
