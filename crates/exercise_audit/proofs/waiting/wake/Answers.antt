use Rattle.exercise_audit.proofs.Waiters.{left}
use Rattle.exercise_audit.proofs.waiting.wake.Goals as goal
use Rattle.exercise_audit.specs.Waiting.{waiting_for}
use Rattle.std.proofs.Common.{arith}
use Rattle.std.proofs.lemmas.Grind.{common_steps}

pub returns-in-Some-clause-leaves : goal.returns-in-Some-clause-leaves
returns-in-Some-clause-leaves c = left c.args.waiting.now c.swap_remove.new.self c.args.entry c.swap_remove.ensures.updates

pub returns-then-is_empty-clause-woken : goal.returns-then-is_empty-clause-woken
unfolding waiting_for
returns-then-is_empty-clause-woken c = grind (arith, common_steps)

pub returns-then-is_empty-clause-leaves : goal.returns-then-is_empty-clause-leaves
unfolding waiting_for
returns-then-is_empty-clause-leaves c = grind (arith, common_steps)
