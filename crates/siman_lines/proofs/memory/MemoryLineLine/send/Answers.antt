use Rattle.std.proofs.Common.{arith}
use Rattle.std.proofs.lemmas.Grind.{common_steps}
use Rattle.siman_lines.proofs.memory.MemoryLineLine.send.Goals as goal

pub returns-clause-sent : goal.returns-clause-sent
returns-clause-sent c = grind (arith, common_steps)

pub returns-clause-own : goal.returns-clause-own
returns-clause-own c = grind (arith, common_steps)
