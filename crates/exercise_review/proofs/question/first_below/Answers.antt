use Rattle.exercise_review.proofs.Numbers.{number_steps}
use Rattle.std.proofs.Common.{arith}
use Rattle.exercise_review.proofs.question.first_below.Goals as goal

pub loop-number-init : goal.loop-number-init
loop-number-init g c = grind (arith, number_steps)

pub returns-then-passes-clause-first : goal.returns-then-passes-clause-first
returns-then-passes-clause-first g c = grind (arith, number_steps)

pub loop-number-preserved : goal.loop-number-preserved
loop-number-preserved g c = grind (arith, number_steps)
