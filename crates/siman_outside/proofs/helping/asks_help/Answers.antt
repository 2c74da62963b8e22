use Rattle.std.proofs.Common.{arith}
use Rattle.std.proofs.lemmas.Grind.{common_steps}
use Rattle.siman_outside.proofs.helping.asks_help.Goals as goal

pub scale_in_slice-first : goal.scale_in_slice-first
scale_in_slice-first g c = grind (arith, common_steps)

pub scale_in_slice-rest : goal.scale_in_slice-rest
scale_in_slice-rest g c = grind (arith, common_steps)

pub slice_bounds-rest-count : goal.slice_bounds-rest-count
slice_bounds-rest-count g c = grind (arith, common_steps)

pub bounds-words-1 : goal.bounds-words-1
bounds-words-1 g c = grind (arith, common_steps)

pub slice_bounds-rest-start : goal.slice_bounds-rest-start
slice_bounds-rest-start g c = grind (arith, common_steps)

pub slice_bounds-rest-end : goal.slice_bounds-rest-end
slice_bounds-rest-end g c = grind (arith, common_steps)

pub returns-in-empty : goal.returns-in-empty
returns-in-empty g c = grind (arith, common_steps)

pub returns-then-is_topic : goal.returns-then-is_topic
returns-then-is_topic g c = grind (arith, common_steps)

pub returns-else-is_topic : goal.returns-else-is_topic
returns-else-is_topic g c = grind (arith, common_steps)
