use Rattle.std.proofs.Common.{◌≡◌, ◌≤◌, ◌-◌}
use Rattle.exercise_review.specs.Order.{order_of}
use Rattle.exercise_review.specs.Parties.{addresses, parties_below}
use Rattle.exercise_review.proofs.parties.parties_by_search.Given as goal

-- The parties at the addresses before the first that is left.
abbrev pub invariant-loop-number : goal.invariant-loop-number
invariant-loop-number g l = record {
  parties : l.parties.items ≡ parties_below l.findings (order_of l.order) l.first;
  within : l.first ≤ addresses;
}

abbrev pub decreases-loop-number : goal.decreases-loop-number
decreases-loop-number g l = addresses - l.first
