use Rattle.std.proofs.Common.{◌≡◌}
use Rattle.exercise_review.specs.Room.{lists_below}
use Rattle.exercise_chart.specs.Arrow.{arrows_to}
use Rattle.exercise_chart.proofs.arrow.arrows_of.Given as goal

-- The arrows to the entries so far.
abbrev pub invariant-loop-entry : goal.invariant-loop-entry
invariant-loop-entry g l = l.arrows.items ≡ lists_below (arrows_to l.scene) l.entry
