use Rattle.std.proofs.Common.{arith}
use Rattle.std.proofs.lemmas.Grind.{common_steps}
use Rattle.siman_pdus.proofs.encoding.put_variable.Goals as goal

pub returns : goal.returns
returns c = grind (arith, common_steps)
