use Rattle.std.proofs.Common.{arith}
use Rattle.std.proofs.lemmas.Grind.{common_steps}
use Rattle.siman_pdus.proofs.encoding.put_fixed_records.Goals as goal

pub put_u32-requires : goal.put_u32-requires
put_u32-requires c = grind (arith, common_steps)

pub put_u32-requires-in-loop-datum : goal.put_u32-requires-in-loop-datum
put_u32-requires-in-loop-datum c = grind (arith, common_steps)

pub loop-datum-preserved : goal.loop-datum-preserved
loop-datum-preserved c = grind (arith, common_steps)

pub returns : goal.returns
returns c = grind (arith, common_steps)
