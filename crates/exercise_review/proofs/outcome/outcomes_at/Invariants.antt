use Rattle.std.proofs.Common.{◌≡◌, map, take}
use Rattle.exercise_review.specs.Order.{order_of}
use Rattle.exercise_review.specs.Outcome.{outcome_at}
use Rattle.exercise_review.proofs.outcome.outcomes_at.Given as goal

-- What is told at each of the parties so far.
abbrev pub invariant-loop-party : goal.invariant-loop-party
invariant-loop-party g l = l.outcomes.items ≡ map (outcome_at l.findings (order_of l.order)) (take l.party-index l.parties)
