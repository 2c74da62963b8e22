use Rattle.std.proofs.Common.{◌≡◌, ◌*◌}
use Rattle.exercise_model.specs.State.{present_below}
use Rattle.exercise_findings.specs.States.{state_or_absent}
use Rattle.exercise_findings.proofs.state.present.Given as goal

abbrev pub invariant-loop-page : goal.invariant-loop-page
invariant-loop-page l = l.entities.items ≡ present_below (state_or_absent l.states) (l.page * 256)
