use Rattle.std.proofs.Common.{arith}
use Rattle.std.proofs.lemmas.Grind.{common_steps, elements}
use Rattle.siman_scripts.proofs.forms.opening.Goals as goal

pub returns-in_err-address-in-len3 : goal.returns-in_err-address-in-len3
returns-in_err-address-in-len3 c = grind (arith, common_steps)

pub returns-in_err-entity-in-len3 : goal.returns-in_err-entity-in-len3
returns-in_err-entity-in-len3 c = grind (arith, common_steps)

pub returns-in_err-state-in-len3 : goal.returns-in_err-state-in-len3
returns-in_err-state-in-len3 c = grind (arith, common_steps)

pub returns-then-entity-lt1 : goal.returns-then-entity-lt1
returns-then-entity-lt1 c = grind (arith, common_steps)

pub returns-else-entity-gt-LARGEST_ENTITY : goal.returns-else-entity-gt-LARGEST_ENTITY
returns-else-entity-gt-LARGEST_ENTITY c = grind (arith, common_steps)

pub returns-in_default : goal.returns-in_default
returns-in_default c = grind (arith, elements)
