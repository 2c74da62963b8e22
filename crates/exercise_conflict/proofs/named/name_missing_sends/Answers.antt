use Rattle.std.proofs.Common.{arith}
use Rattle.std.proofs.lemmas.Grind.{common_steps}
use Rattle.exercise_conflict.proofs.named.name_missing_sends.Goals as goal

pub loop-lack-preserved : goal.loop-lack-preserved
loop-lack-preserved c = grind (arith, common_steps)

pub returns : goal.returns
returns c = grind (arith, common_steps)
