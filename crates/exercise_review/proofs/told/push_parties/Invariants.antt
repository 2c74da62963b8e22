use Rattle.std.proofs.Common.{◌≡◌, ◌≤◌, ◌++◌, Some, map, take, length}
use Rattle.exercise_review.specs.Order.{order_of}
use Rattle.exercise_review.specs.Outcome.{outcome_at}
use Rattle.exercise_review.specs.Row.{row_order}
use Rattle.exercise_review.specs.Told.{order_at_party}
use Rattle.exercise_review.proofs.told.push_parties.Given as goal

-- What is told of the parties so far stands behind what was there.
abbrev pub invariant-loop-party : goal.invariant-loop-party
invariant-loop-party g l = record {
  added : map (row_order l.findings) l.rows.items ≡ map (row_order l.findings) l.initial.rows.items
      ++ map Some (map (λ party. order_at_party l.findings (order_of l.order) (outcome_at l.findings (order_of l.order) party)) (take l.party-index l.parties));
  room : length l.rows.items ≤ l.most;
}
