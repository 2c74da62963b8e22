use Rattle.std.proofs.Common.{arith}
use Rattle.std.proofs.lemmas.Grind.{common_steps}
use Rattle.siman_scripts.proofs.moves.command.Goals as goal

pub returns-in-empty : goal.returns-in-empty
returns-in-empty c = grind (arith, common_steps)

pub returns-in_ok-body_of-in-Some : goal.returns-in_ok-body_of-in-Some
returns-in_ok-body_of-in-Some c = grind (arith, common_steps)
