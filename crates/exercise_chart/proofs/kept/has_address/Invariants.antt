-- The address is among those that are left exactly if it is among all.
use Rattle.std.proofs.Common.{◌≡◌, length}
use Rattle.exercise_chart.specs.Kept.{has_address}
use Rattle.exercise_chart.proofs.kept.has_address.Given as goal

abbrev pub invariant-loop-others : goal.invariant-loop-others
invariant-loop-others l = has_address l.others l.address ≡ has_address l.addresses l.address

abbrev pub decreases-loop-others : goal.decreases-loop-others
decreases-loop-others l = length l.others
