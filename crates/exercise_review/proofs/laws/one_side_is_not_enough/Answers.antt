use Rattle.std.proofs.Common.{refl}
use Rattle.exercise_review.specs.Fate.{fate_of}
use Rattle.exercise_review.proofs.Sides.{fate_unmade, none_outside, made_inside}
use Rattle.exercise_review.proofs.laws.one_side_is_not_enough.Goals as goal

pub returns-clause-maker : goal.returns-clause-maker
returns-clause-maker c = fate_unmade

pub returns-clause-party : goal.returns-clause-party
unfolding fate_of
returns-clause-party c = λ r o a. refl

pub returns-clause-closed : goal.returns-clause-closed
returns-clause-closed c = none_outside

pub returns-clause-inside : goal.returns-clause-inside
returns-clause-inside c = made_inside
