use Rattle.exercise_review.specs.Order.{order_of}
use Rattle.exercise_review.proofs.PartyPlaces.{IsNearest}
use Rattle.exercise_review.proofs.parties.next_party.Given as goal

-- The nearest of the places so far.
abbrev pub invariant-loop-place : goal.invariant-loop-place
invariant-loop-place g l = IsNearest l.findings (order_of l.order) l.first l.place l.next
