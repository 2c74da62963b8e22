use Rattle.exercise_review.proofs.FirstOnes.{fails_itself, none_before, none_or_not}
use Rattle.std.proofs.Common.{arith}
use Rattle.exercise_review.proofs.entry_chains.is_first_of_all.Goals as goal

pub returns-then-not-passes : goal.returns-then-not-passes
returns-then-not-passes g c = grind (arith, fails_itself, none_or_not, none_before)

pub returns-in-Some : goal.returns-in-Some
returns-in-Some g c = grind (arith, fails_itself, none_or_not, none_before)

pub returns-in-None : goal.returns-in-None
returns-in-None g c = grind (arith, fails_itself, none_or_not, none_before)
