use Rattle.std.proofs.Common.{◌≡◌}
use Rattle.exercise_review.specs.Order.{order_of}
use Rattle.exercise_review.specs.Parties.{parties_below}
use Rattle.exercise_review.proofs.Stationed.{up_to}
use Rattle.exercise_review.proofs.parties.station_parties.Given as goal

-- The parties up to the address of the last station that was asked.
abbrev pub invariant-loop-station : goal.invariant-loop-station
invariant-loop-station g l = l.parties.items ≡ parties_below l.findings (order_of l.order) (up_to l.findings l.station)
