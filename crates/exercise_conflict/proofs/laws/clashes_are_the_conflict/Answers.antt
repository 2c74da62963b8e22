use Rattle.exercise_conflict.proofs.Opposing.{clashes_by_order, clashes_by_answer, clashes_by_opposite, clashes_by_change, clashes_by_state, clashes_by_send}
use Rattle.exercise_conflict.proofs.laws.clashes_are_the_conflict.Goals as goal

pub returns-clause-order : goal.returns-clause-order
returns-clause-order c = clashes_by_order

pub returns-clause-answer : goal.returns-clause-answer
returns-clause-answer c = clashes_by_answer

pub returns-clause-opposite : goal.returns-clause-opposite
returns-clause-opposite c = clashes_by_opposite

pub returns-clause-change : goal.returns-clause-change
returns-clause-change c = clashes_by_change

pub returns-clause-state : goal.returns-clause-state
returns-clause-state c = clashes_by_state

pub returns-clause-send : goal.returns-clause-send
returns-clause-send c = clashes_by_send
