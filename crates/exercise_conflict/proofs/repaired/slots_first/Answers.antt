use Rattle.std.proofs.Common.{arith}
use Rattle.std.proofs.lemmas.Grind.{common_steps}
use Rattle.exercise_conflict.proofs.Counted.{made_more}
use Rattle.exercise_conflict.proofs.repaired.slots_first.Goals as goal

pub loop-lack-preserved : goal.loop-lack-preserved
loop-lack-preserved c = grind (arith, common_steps, made_more)

pub returns : goal.returns
returns c = grind (arith, common_steps)
