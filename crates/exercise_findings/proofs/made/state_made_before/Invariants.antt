use Rattle.std.proofs.Common.{◌≡◌}
use Rattle.exercise_model.specs.History.{station_at}
use Rattle.exercise_model.specs.State.{entity_state}
use Rattle.exercise_model.specs.Place.{log_before}
use Rattle.exercise_findings.proofs.made.state_made_before.Given as goal

-- The state before each entry that was gone over.
abbrev pub invariant-loop-entry : goal.invariant-loop-entry
invariant-loop-entry g l =
    let r = g.L.ExerciseLog.recording l.log in
    l.state ≡ entity_state r.setting.exercise (station_at r l.station) (log_before r l.station l.entry) l.entity
