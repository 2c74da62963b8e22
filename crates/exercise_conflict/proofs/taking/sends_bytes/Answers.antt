use Rattle.std.proofs.Common.{arith}
use Rattle.std.proofs.lemmas.Grind.{elements}
use Rattle.std.proofs.lemmas.Grind.{common_steps}
use Rattle.exercise_conflict.proofs.taking.sends_bytes.Goals as goal

pub returns-then-entry-entry_count : goal.returns-then-entry-entry_count
returns-then-entry-entry_count g c = grind (arith, elements)

pub entry-requires : goal.entry-requires
entry-requires g c = grind (arith, common_steps)

pub returns-in-Sent : goal.returns-in-Sent
returns-in-Sent g c = grind (arith, common_steps)

pub returns-in-Received : goal.returns-in-Received
returns-in-Received g c = grind (arith, common_steps)
