use Rattle.std.proofs.Common.{◌≡◌, ◌++◌, take}
use Rattle.std.specs.List.{flat_map}
use Rattle.exercise_chart.specs.Unanswered.{unanswered_in}
use Rattle.exercise_chart.proofs.unanswered.push_outcomes.Given as goal

-- Those of the parties so far stand behind what was there.
abbrev pub invariant-loop-outcome : goal.invariant-loop-outcome
invariant-loop-outcome g l = l.points.items ≡ l.initial.points.items ++ flat_map (unanswered_in l.scene) (take l.outcome-index l.outcomes)
