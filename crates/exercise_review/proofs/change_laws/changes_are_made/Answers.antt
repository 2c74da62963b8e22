use Rattle.exercise_review.proofs.Made.{change_in_run, order_in_run}
use Rattle.exercise_review.proofs.change_laws.changes_are_made.Goals as goal

pub returns-clause-log : goal.returns-clause-log
returns-clause-log c = change_in_run

pub returns-clause-order : goal.returns-clause-order
returns-clause-order c = order_in_run
