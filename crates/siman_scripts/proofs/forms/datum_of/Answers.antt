use Rattle.std.proofs.Common.{arith}
use Rattle.std.proofs.lemmas.Grind.{common_steps}
use Rattle.siman_scripts.proofs.forms.datum_of.Goals as goal

pub returns-in_err-number_32-in-len2 : goal.returns-in_err-number_32-in-len2
returns-in_err-number_32-in-len2 c = grind (arith, common_steps)

pub returns-in_err-number_32-in-len2-2 : goal.returns-in_err-number_32-in-len2-2
returns-in_err-number_32-in-len2-2 c = grind (arith, common_steps)

pub returns-in_ok-number_32-in-len2-2 : goal.returns-in_ok-number_32-in-len2-2
returns-in_ok-number_32-in-len2-2 c = grind (arith, common_steps)

pub returns-in_default : goal.returns-in_default
returns-in_default c = grind (arith, common_steps)

pub returns-in_default-2 : goal.returns-in_default-2
returns-in_default-2 c = grind (arith, common_steps)
