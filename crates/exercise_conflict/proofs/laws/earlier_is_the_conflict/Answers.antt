use Rattle.exercise_conflict.proofs.Contradicting.{reused_contradicts, answer_contradicts, changed_contradicts}
use Rattle.exercise_conflict.proofs.laws.earlier_is_the_conflict.Goals as goal

pub returns-clause-reused : goal.returns-clause-reused
returns-clause-reused c = reused_contradicts

pub returns-clause-answer : goal.returns-clause-answer
returns-clause-answer c = answer_contradicts

pub returns-clause-changed : goal.returns-clause-changed
returns-clause-changed c = changed_contradicts
