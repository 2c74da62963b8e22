use Rattle.std.proofs.Common.{◌≡◌, None}
use Rattle.exercise_model.specs.Place.{first_below}
use Rattle.exercise_review.proofs.question.first_below.Given as goal

-- None that was asked passed.
abbrev pub invariant-loop-number : goal.invariant-loop-number
invariant-loop-number g l = first_below (g.Q.Question.test l.question) l.number ≡ None
