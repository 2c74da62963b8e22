use Rattle.std.proofs.Common.{arith}
use Rattle.std.proofs.lemmas.Grind.{common_steps}
use Rattle.siman_manager.proofs.manager.Manager.make.Goals as goal

pub returns-clause-refused : goal.returns-clause-refused
returns-clause-refused c = grind (arith, common_steps)

pub returns-clause-only : goal.returns-clause-only
returns-clause-only c = grind (arith, common_steps)

pub returns-clause-id : goal.returns-clause-id
returns-clause-id c = grind (arith, common_steps)
