use Rattle.std.proofs.Common.{◌≡◌, ◌++◌}
use Rattle.exercise_review.specs.Room.{lists_below}
use Rattle.exercise_chart.specs.Loss.{losses_to}
use Rattle.exercise_chart.proofs.loss.push_losses.Given as goal

-- What is lost at the stations so far stands behind what was there.
abbrev pub invariant-loop-other : goal.invariant-loop-other
invariant-loop-other g l = l.losses.items ≡ l.initial.losses.items ++ lists_below (losses_to l.scene l.step) l.other
