-- The slot among the bars that are left is that among all.
use Rattle.std.proofs.Common.{◌≡◌, length}
use Rattle.exercise_chart.specs.Slot.{slot_of}
use Rattle.exercise_chart.proofs.slot.slot_of.Given as goal

abbrev pub invariant-loop-others : goal.invariant-loop-others
invariant-loop-others l = slot_of l.station l.entity l.others ≡ slot_of l.station l.entity l.bars

abbrev pub decreases-loop-others : goal.decreases-loop-others
decreases-loop-others l = length l.others
