use Rattle.std.proofs.Common.{arith}
use Rattle.std.proofs.lemmas.Grind.{common_steps}
use Rattle.siman_lines.proofs.serving.serve_turn.Goals as goal

pub returns-in-Ok-clause-served : goal.returns-in-Ok-clause-served
returns-in-Ok-clause-served g c = grind (arith, common_steps)

pub returns-in-Err-serve_one-clause-fault : goal.returns-in-Err-serve_one-clause-fault
returns-in-Err-serve_one-clause-fault g c = grind (arith, common_steps)
