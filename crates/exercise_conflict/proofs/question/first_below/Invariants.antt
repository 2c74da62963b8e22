use Rattle.std.proofs.Common.{◌≡◌, None}
use Rattle.exercise_model.specs.Place.{first_below}
use Rattle.exercise_conflict.proofs.question.first_below.Given as goal

-- None that was asked passed.
abbrev pub invariant-loop-entry : goal.invariant-loop-entry
invariant-loop-entry g l = first_below (g.Q.NumberTest.test l.question) l.entry ≡ None
