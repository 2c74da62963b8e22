-- The station has bars among those that are left exactly if it has bars at all.
use Rattle.std.proofs.Common.{◌≡◌, length}
use Rattle.exercise_chart.specs.Slot.{has_bars}
use Rattle.exercise_chart.proofs.slot.has_bars.Given as goal

abbrev pub invariant-loop-others : goal.invariant-loop-others
invariant-loop-others l = has_bars l.station l.others ≡ has_bars l.station l.bars

abbrev pub decreases-loop-others : goal.decreases-loop-others
decreases-loop-others l = length l.others
