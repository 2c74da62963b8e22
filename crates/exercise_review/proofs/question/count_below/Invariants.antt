use Rattle.std.proofs.Common.{◌≡◌, ◌≤◌}
use Rattle.exercise_review.specs.Counted.{count_below}
use Rattle.exercise_review.proofs.question.count_below.Given as goal

-- As many passed as were asked and pass.
abbrev pub invariant-loop-number : goal.invariant-loop-number
invariant-loop-number g l = record {
  count : l.count ≡ count_below (g.Q.Question.test l.question) l.number;
  within : l.count ≤ l.number;
}
