use Rattle.exercise_review.proofs.Telling.{told_received, received_told}
use Rattle.exercise_review.proofs.Came.{known_heard}
use Rattle.exercise_review.proofs.manager_laws.managers_know.Goals as goal

pub returns-clause-heard : goal.returns-clause-heard
returns-clause-heard c = told_received

pub returns-clause-received : goal.returns-clause-received
returns-clause-received c = received_told

pub returns-clause-known : goal.returns-clause-known
returns-clause-known c = known_heard
