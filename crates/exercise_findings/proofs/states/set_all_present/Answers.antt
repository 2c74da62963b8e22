use Rattle.std.proofs.Common.{refl}
use Rattle.exercise_findings.proofs.EntityStates.{state_in-moved}
use Rattle.exercise_findings.proofs.states.set_all_present.Goals as goal

pub returns-clause-states : goal.returns-clause-states
returns-clause-states c = state_in-moved c.args.states.now _ c.args.entry refl refl c.moved-states.ensures refl c.requires.up_to
