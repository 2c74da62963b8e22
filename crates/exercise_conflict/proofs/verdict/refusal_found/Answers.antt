use Rattle.std.proofs.Common.{arith}
use Rattle.std.proofs.lemmas.Grind.{common_steps}
use Rattle.exercise_conflict.proofs.verdict.refusal_found.Goals as goal

pub returns-in_err-bad-clause-refused : goal.returns-in_err-bad-clause-refused
returns-in_err-bad-clause-refused g c = grind (arith, common_steps)

pub returns-in_err-bad-clause-good : goal.returns-in_err-bad-clause-good
returns-in_err-bad-clause-good g c = grind (arith, common_steps)

pub returns-in_err-bad-clause-findings : goal.returns-in_err-bad-clause-findings
returns-in_err-bad-clause-findings g c = grind (arith, common_steps)

pub refusal_of-requires : goal.refusal_of-requires
refusal_of-requires g c = grind (arith, common_steps)

pub returns-in-Some-clause-refused : goal.returns-in-Some-clause-refused
returns-in-Some-clause-refused g c = grind (arith, common_steps)

pub returns-in-Some-clause-good : goal.returns-in-Some-clause-good
returns-in-Some-clause-good g c = grind (arith, common_steps)

pub returns-in-Some-clause-findings : goal.returns-in-Some-clause-findings
returns-in-Some-clause-findings g c = grind (arith, common_steps)

pub returns-in-None-clause-good : goal.returns-in-None-clause-good
returns-in-None-clause-good g c = grind (arith, common_steps)

pub returns-in-None-clause-findings : goal.returns-in-None-clause-findings
returns-in-None-clause-findings g c = grind (arith, common_steps)
