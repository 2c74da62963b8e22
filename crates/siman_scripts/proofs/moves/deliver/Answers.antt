use Rattle.std.proofs.Common.{arith}
use Rattle.std.proofs.lemmas.Grind.{common_steps}
use Rattle.siman_scripts.proofs.moves.deliver.Goals as goal

pub returns-in_err-place-in-len2 : goal.returns-in_err-place-in-len2
returns-in_err-place-in-len2 c = grind (arith, common_steps)

pub returns-in_err-address_of-in-len2 : goal.returns-in_err-address_of-in-len2
returns-in_err-address_of-in-len2 c = grind (arith, common_steps)

pub returns-in_ok-address_of-in-len2 : goal.returns-in_ok-address_of-in-len2
returns-in_ok-address_of-in-len2 c = grind (arith, common_steps)

pub returns-in_default : goal.returns-in_default
returns-in_default c = grind (arith, common_steps)
