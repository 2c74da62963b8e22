use Rattle.std.proofs.Common.{◌≡◌, ◌<◌}
use Rattle.std.specs.Prelude.{IfSome}
use Rattle.exercise_review.specs.Counted.{last_below}
use Rattle.exercise_review.proofs.question.last_below.Given as goal

-- The last that passed of those that were asked.
abbrev pub invariant-loop-number : goal.invariant-loop-number
invariant-loop-number g l = record {
  last : l.last ≡ last_below (g.Q.Question.test l.question) l.number;
  within : IfSome l.last (λ number. number < l.number);
}
