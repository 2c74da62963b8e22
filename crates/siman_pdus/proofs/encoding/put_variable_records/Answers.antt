use Rattle.std.proofs.Common.{arith}
use Rattle.std.proofs.lemmas.Grind.{common_steps}
use Rattle.siman_pdus.proofs.encoding.put_variable_records.Goals as goal

pub put_variable-requires : goal.put_variable-requires
put_variable-requires c = grind (arith, common_steps)

pub loop-datum-preserved : goal.loop-datum-preserved
loop-datum-preserved c = grind (arith, common_steps)

pub returns : goal.returns
returns c = grind (arith, common_steps)
