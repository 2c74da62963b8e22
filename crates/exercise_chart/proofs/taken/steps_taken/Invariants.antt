use Rattle.exercise_chart.specs.Point.{AreTaken}
use Rattle.exercise_chart.proofs.taken.steps_taken.Given as goal

-- The first of the steps so far that takes each entry.
abbrev pub invariant-loop-number : goal.invariant-loop-number
invariant-loop-number l = AreTaken l.steps l.number l.entries l.taken.items
