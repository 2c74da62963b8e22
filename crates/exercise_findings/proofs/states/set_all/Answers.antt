use Rattle.std.proofs.Common.{refl}
use Rattle.exercise_findings.proofs.EntityStates.{state_in-alike}
use Rattle.exercise_findings.proofs.states.set_all.Goals as goal

pub returns-clause-states : goal.returns-clause-states
returns-clause-states c = state_in-alike c.args.states.now _ c.args.entry refl refl c.requires.up_to
