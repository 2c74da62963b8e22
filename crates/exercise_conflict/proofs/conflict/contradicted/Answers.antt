use Rattle.std.proofs.Common.{arith}
use Rattle.std.proofs.lemmas.Grind.{common_steps}
use Rattle.exercise_conflict.proofs.conflict.contradicted.Goals as goal

pub returns-in_err-ways : goal.returns-in_err-ways
returns-in_err-ways g c = grind (arith, common_steps)

pub returns-in_err-cycles : goal.returns-in_err-cycles
returns-in_err-cycles g c = grind (arith, common_steps)

pub returns-in_err-also : goal.returns-in_err-also
returns-in_err-also g c = grind (arith, common_steps)

pub returns-in_err-lacks : goal.returns-in_err-lacks
returns-in_err-lacks g c = grind (arith, common_steps)

pub repair_unexplained-requires-clause-lacks : goal.repair_unexplained-requires-clause-lacks
repair_unexplained-requires-clause-lacks g c = grind (arith, common_steps)

pub repair_unexplained-requires-clause-limits : goal.repair_unexplained-requires-clause-limits
repair_unexplained-requires-clause-limits g c = grind (arith, common_steps)

pub repair_unexplained-requires-clause-unexplained : goal.repair_unexplained-requires-clause-unexplained
repair_unexplained-requires-clause-unexplained g c = grind (arith, common_steps)

pub returns-in_err-repair : goal.returns-in_err-repair
returns-in_err-repair g c = grind (arith, common_steps)

pub returns : goal.returns
returns g c = grind (arith, common_steps)
