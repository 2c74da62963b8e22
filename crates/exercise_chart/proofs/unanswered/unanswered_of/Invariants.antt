use Rattle.std.proofs.Common.{◌≡◌}
use Rattle.exercise_review.specs.Room.{lists_below}
use Rattle.exercise_chart.specs.Unanswered.{unanswered_at}
use Rattle.exercise_chart.proofs.unanswered.unanswered_of.Given as goal

-- Those of the orders at the entries so far.
abbrev pub invariant-loop-entry : goal.invariant-loop-entry
invariant-loop-entry g l = l.points.items ≡ lists_below (unanswered_at l.scene) l.entry
