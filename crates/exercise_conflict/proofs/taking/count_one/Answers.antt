use Rattle.std.proofs.Common.{arith}
use Rattle.std.proofs.lemmas.Grind.{common_steps}
use Rattle.std.proofs.lemmas.Grind.{elements}
use Rattle.exercise_conflict.proofs.taking.count_one.Goals as goal

pub index_mut-requires : goal.index_mut-requires
index_mut-requires c = grind (arith, common_steps)

pub overflow_add-index_mut : goal.overflow_add-index_mut
overflow_add-index_mut c = grind (arith, elements)

pub returns-then-place-len-clause-count : goal.returns-then-place-len-clause-count
returns-then-place-len-clause-count c = grind (arith, common_steps)

pub returns-then-place-len-clause-each : goal.returns-then-place-len-clause-each
returns-then-place-len-clause-each c = grind (arith, common_steps)

pub returns-else-place-len-clause-count : goal.returns-else-place-len-clause-count
returns-else-place-len-clause-count c = grind (arith, common_steps)

pub returns-else-place-len-clause-each : goal.returns-else-place-len-clause-each
returns-else-place-len-clause-each c = grind (arith, common_steps)
