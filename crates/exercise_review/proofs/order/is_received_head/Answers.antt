use Rattle.std.proofs.Common.{arith}
use Rattle.std.proofs.lemmas.Grind.{common_steps}
use Rattle.exercise_review.proofs.Under.{anywhere_first}
use Rattle.exercise_review.proofs.order.is_received_head.Goals as goal

pub returns-then-not-is_outside_request : goal.returns-then-not-is_outside_request
returns-then-not-is_outside_request g c = grind (arith, common_steps)

pub is_first_by_second-requires-clause-within : goal.is_first_by_second-requires-clause-within
is_first_by_second-requires-clause-within g c = grind (arith, common_steps)

pub is_first_by_second-requires-clause-under : goal.is_first_by_second-requires-clause-under
is_first_by_second-requires-clause-under g c = grind (arith, anywhere_first)

pub returns : goal.returns
returns g c = grind (arith, common_steps)
