use Rattle.exercise_review.specs.Tally.{passes_at}
use Rattle.std.proofs.Common.{arith}
use Rattle.std.proofs.lemmas.Grind.{elements}
use Rattle.exercise_review.proofs.tally.AreRunningQuestion.passes.Goals as goal

pub returns-in-Some : goal.returns-in-Some
unfolding passes_at
returns-in-Some c = grind (arith, elements)

pub returns-in-None : goal.returns-in-None
unfolding passes_at
returns-in-None c = grind (arith, elements)
