use Rattle.std.proofs.Common.{◌≡◌}
use Rattle.exercise_review.specs.Room.{lists_below}
use Rattle.exercise_chart.specs.Loss.{losses_shown}
use Rattle.exercise_chart.proofs.loss.losses_of.Given as goal

-- What is lost of the rows so far.
abbrev pub invariant-loop-number : goal.invariant-loop-number
invariant-loop-number g l = l.losses.items ≡ lists_below (losses_shown l.scene) l.number
