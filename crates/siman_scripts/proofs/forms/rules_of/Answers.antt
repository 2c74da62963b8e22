use Rattle.std.proofs.Common.{arith}
use Rattle.std.proofs.lemmas.Grind.{common_steps, elements}
use Rattle.siman_scripts.proofs.forms.rules_of.Goals as goal

pub returns-in_err-first_id-in-len3 : goal.returns-in_err-first_id-in-len3
returns-in_err-first_id-in-len3 c = grind (arith, common_steps)

pub returns-in_err-tries-in-len3 : goal.returns-in_err-tries-in-len3
returns-in_err-tries-in-len3 c = grind (arith, common_steps)

pub returns-in_err-value_of-in-len3 : goal.returns-in_err-value_of-in-len3
returns-in_err-value_of-in-len3 c = grind (arith, common_steps)

pub returns-in_err-wait-in-len3 : goal.returns-in_err-wait-in-len3
returns-in_err-wait-in-len3 c = grind (arith, common_steps)

pub returns-then-tries-lt1 : goal.returns-then-tries-lt1
returns-then-tries-lt1 c = grind (arith, common_steps)

pub returns-in-empty : goal.returns-in-empty
returns-in-empty c = grind (arith, common_steps)

pub returns-else-tries-lt1 : goal.returns-else-tries-lt1
returns-else-tries-lt1 c = grind (arith, common_steps)

pub returns-in_default : goal.returns-in_default
returns-in_default c = grind (arith, elements)

pub returns-in_default-2 : goal.returns-in_default-2
returns-in_default-2 c = grind (arith, elements)
