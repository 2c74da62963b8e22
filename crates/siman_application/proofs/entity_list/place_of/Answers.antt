use Rattle.std.proofs.Common.{arith}
use Rattle.std.proofs.lemmas.Grind.{common_steps}
use Rattle.siman_application.proofs.entity_list.place_of.Goals as goal

pub loop-place-init : goal.loop-place-init
loop-place-init c = grind (arith, common_steps)

pub offset_bounds-entities-place : goal.offset_bounds-entities-place
offset_bounds-entities-place c = grind (arith, common_steps)

pub bounds-entities-place : goal.bounds-entities-place
bounds-entities-place c = grind (arith, common_steps)

pub returns-then-entities-place : goal.returns-then-entities-place
returns-then-entities-place c = grind (arith, common_steps)

pub loop-place-preserved : goal.loop-place-preserved
loop-place-preserved c = grind (arith, common_steps)

pub returns : goal.returns
returns c = grind (arith, common_steps)
