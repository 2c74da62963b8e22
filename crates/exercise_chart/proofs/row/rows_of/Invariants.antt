use Rattle.std.proofs.Common.{◌≡◌}
use Rattle.exercise_review.specs.Room.{lists_below}
use Rattle.exercise_chart.specs.Row.{row_shown}
use Rattle.exercise_chart.proofs.row.rows_of.Given as goal

-- The rows of the steps so far.
abbrev pub invariant-loop-number : goal.invariant-loop-number
invariant-loop-number g l = l.rows.items ≡ lists_below (row_shown l.scene) l.number
