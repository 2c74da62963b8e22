use Rattle.std.proofs.Common.{◌≡◌}
use Rattle.exercise_review.specs.Room.{lists_below}
use Rattle.exercise_chart.specs.Outside.{outside_receipts_shown}
use Rattle.exercise_chart.proofs.outside.outside_receipts.Given as goal

-- What came from outside in the rows so far.
abbrev pub invariant-loop-number : goal.invariant-loop-number
invariant-loop-number g l = l.found.items ≡ lists_below (outside_receipts_shown l.scene) l.number
