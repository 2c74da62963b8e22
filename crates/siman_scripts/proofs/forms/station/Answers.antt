use Rattle.std.proofs.Common.{arith}
use Rattle.std.proofs.lemmas.Grind.{common_steps}
use Rattle.siman_scripts.proofs.forms.station.Goals as goal

pub returns-in_err-rules_of-in-len1-up : goal.returns-in_err-rules_of-in-len1-up
returns-in_err-rules_of-in-len1-up c = grind (arith, common_steps)

pub returns-in-empty : goal.returns-in-empty
returns-in-empty c = grind (arith, common_steps)

pub returns-in_ok-rules_of-in-len1-up : goal.returns-in_ok-rules_of-in-len1-up
returns-in_ok-rules_of-in-len1-up c = grind (arith, common_steps)
