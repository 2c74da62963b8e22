use Rattle.std.proofs.Common.{arith}
use Rattle.std.proofs.lemmas.Grind.{common_steps}
use Rattle.std.proofs.lemmas.Grind.{elements}
use Rattle.exercise_conflict.proofs.verdict.refusal_of.Goals as goal

pub returns-in_err-clash-clause-refusal : goal.returns-in_err-clash-clause-refusal
returns-in_err-clash-clause-refusal g c = grind (arith, common_steps)

pub returns-in_err-clash-clause-some : goal.returns-in_err-clash-clause-some
returns-in_err-clash-clause-some g c = grind (arith, common_steps)

pub returns-in_err-clash-clause-findings : goal.returns-in_err-clash-clause-findings
returns-in_err-clash-clause-findings g c = grind (arith, common_steps)

pub same-findings : goal.same-findings
same-findings g c = grind (arith, common_steps)

pub returns-in_err-fault-clause-refusal : goal.returns-in_err-fault-clause-refusal
returns-in_err-fault-clause-refusal g c = grind (arith, common_steps)

pub returns-in_err-fault-clause-some : goal.returns-in_err-fault-clause-some
returns-in_err-fault-clause-some g c = grind (arith, common_steps)

pub returns-in_err-fault-clause-findings : goal.returns-in_err-fault-clause-findings
returns-in_err-fault-clause-findings g c = grind (arith, common_steps)

pub returns-clause-refusal : goal.returns-clause-refusal
returns-clause-refusal g c = grind (arith, elements)

pub returns-clause-some : goal.returns-clause-some
returns-clause-some g c = grind (arith, common_steps)

pub returns-clause-findings : goal.returns-clause-findings
returns-clause-findings g c = grind (arith, common_steps)
