use Rattle.exercise_check.proofs.GoodLinks.{links_said, named_once, differ_in_sequence}
use Rattle.exercise_check.proofs.link_laws.links_are_of_the_logs.Goals as goal

pub returns-clause-links : goal.returns-clause-links
returns-clause-links c = links_said

pub returns-clause-once : goal.returns-clause-once
returns-clause-once c = named_once

pub returns-clause-order : goal.returns-clause-order
returns-clause-order c = differ_in_sequence
