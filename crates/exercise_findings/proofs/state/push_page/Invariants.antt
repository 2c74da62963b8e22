use Rattle.std.proofs.Common.{◌≡◌, ◌+◌, ◌*◌}
use Rattle.exercise_model.specs.State.{present_below}
use Rattle.exercise_findings.specs.States.{state_or_absent}
use Rattle.exercise_findings.proofs.state.push_page.Given as goal

abbrev pub invariant-loop-place : goal.invariant-loop-place
invariant-loop-place l = l.entities.items ≡ present_below (state_or_absent l.states) (l.page * 256 + l.place)
