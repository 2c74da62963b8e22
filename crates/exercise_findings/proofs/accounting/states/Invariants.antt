use Rattle.std.proofs.Common.{◌≡◌, map}
use Rattle.exercise_model.specs.Account.{entities_of, values_below}
use Rattle.exercise_findings.proofs.accounting.states.Given as goal

abbrev pub invariant-loop-station : goal.invariant-loop-station
invariant-loop-station g l = map (λ v. v.items) l.states.items ≡ values_below (entities_of (g.L.ExerciseLog.recording l.log)) l.station
