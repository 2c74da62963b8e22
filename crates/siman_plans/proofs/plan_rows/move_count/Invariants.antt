-- With the moves of what is left, those so far are the moves of all.
use Rattle.std.proofs.Common.{◌≡◌, ◌+◌, ◌≤◌, length}
use Rattle.siman_plans.specs.ClosingLines.{move_count}
use Rattle.siman_plans.proofs.plan_rows.move_count.Given as goal

abbrev pub invariant-loop-others : goal.invariant-loop-others
invariant-loop-others l = (l.count + move_count l.others ≡ move_count l.planned) × (l.count + length l.others ≤ length l.planned)

abbrev pub decreases-loop-others : goal.decreases-loop-others
decreases-loop-others l = length l.others
