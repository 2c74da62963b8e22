use Rattle.exercise_conflict.proofs.Waiting.{blocks_own, leads, waits_hold}
use Rattle.exercise_conflict.proofs.laws.ways_are_blocked.Goals as goal

pub returns-clause-own : goal.returns-clause-own
returns-clause-own c = blocks_own

pub returns-clause-leads : goal.returns-clause-leads
returns-clause-leads c = λ r blocks n b k blocked at unsent source. leads r blocks n b k blocked at unsent source

pub returns-clause-waits : goal.returns-clause-waits
returns-clause-waits c = waits_hold
