use Rattle.std.proofs.Common.{arith}
use Rattle.std.proofs.lemmas.Grind.{common_steps}
use Rattle.siman_application.proofs.entity_list.place_for.Goals as goal

pub returns-then-entities-place-clause-place : goal.returns-then-entities-place-clause-place
returns-then-entities-place-clause-place c = grind (arith, common_steps) steps 2000000

pub loop-place-preserved : goal.loop-place-preserved
loop-place-preserved c = grind (arith, common_steps) steps 2000000

pub returns-clause-place : goal.returns-clause-place
returns-clause-place c = grind (arith, common_steps) steps 2000000
