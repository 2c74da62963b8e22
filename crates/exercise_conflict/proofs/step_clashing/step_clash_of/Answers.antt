use Rattle.exercise_conflict.specs.StepClash.{step_clash_of}
use Rattle.std.proofs.Common.{arith}
use Rattle.std.proofs.lemmas.Grind.{elements}
use Rattle.exercise_conflict.proofs.step_clashing.step_clash_of.Goals as goal

pub returns-then-step-steps : goal.returns-then-step-steps
unfolding step_clash_of
returns-then-step-steps g c = grind (arith, elements)

pub returns : goal.returns
unfolding step_clash_of
returns g c = grind (arith, elements)
