use Rattle.std.proofs.Common.{arith}
use Rattle.std.proofs.lemmas.Grind.{common_steps}
use Rattle.exercise_review.proofs.outcome.outcomes_at.Goals as goal

pub loop-party-preserved : goal.loop-party-preserved
loop-party-preserved g c = grind (arith, common_steps)

pub returns : goal.returns
returns g c = grind (arith, common_steps)
