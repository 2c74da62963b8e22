use Rattle.std.proofs.Common.{arith}
use Rattle.std.proofs.lemmas.Grind.{common_steps}
use Rattle.siman_application.proofs.records.find_variable.Goals as goal

pub returns-then-size-left : goal.returns-then-size-left
returns-then-size-left c = grind (arith, common_steps) steps 2000000

pub loop-id-preserved : goal.loop-id-preserved
loop-id-preserved c = grind (arith, common_steps) steps 2000000

pub returns : goal.returns
returns c = grind (arith, common_steps) steps 2000000
