-- The entity is among those that are left exactly if it is among all.
use Rattle.std.proofs.Common.{◌≡◌, length}
use Rattle.exercise_chart.specs.Bar.{is_among}
use Rattle.exercise_chart.proofs.bar.is_among.Given as goal

abbrev pub invariant-loop-others : goal.invariant-loop-others
invariant-loop-others l = is_among l.others l.entity ≡ is_among l.entities l.entity

abbrev pub decreases-loop-others : goal.decreases-loop-others
decreases-loop-others l = length l.others
