use Rattle.std.proofs.Common.{arith}
use Rattle.std.proofs.lemmas.Grind.{common_steps}
use Rattle.siman_scripts.proofs.moves.act_of.Goals as goal

pub returns-in-tick : goal.returns-in-tick
returns-in-tick c = grind (arith, common_steps)

pub returns-in-tell : goal.returns-in-tell
returns-in-tell c = grind (arith, common_steps)
