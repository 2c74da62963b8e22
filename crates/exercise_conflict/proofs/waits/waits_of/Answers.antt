use Rattle.std.proofs.Common.{arith}
use Rattle.std.proofs.lemmas.Grind.{common_steps}
use Rattle.std.proofs.lemmas.List.Elements.{filter_map-append}
use Rattle.exercise_conflict.proofs.waits.waits_of.Goals as goal

pub loop-block-preserved : goal.loop-block-preserved
loop-block-preserved g c = grind (arith, common_steps, filter_map-append)

pub returns : goal.returns
returns g c = grind (arith, common_steps)
