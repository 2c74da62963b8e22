use Rattle.std.proofs.Common.{◌≡◌, ◌≤◌, ◌-◌}
use Rattle.exercise_model.specs.History.{station_at}
use Rattle.exercise_model.specs.State.{entity_state}
use Rattle.exercise_model.specs.Place.{log_before}
use Rattle.exercise_conflict.specs.Since.{last_change_entry}
use Rattle.exercise_conflict.proofs.since.state_and_change.Given as goal

-- The state before the entry that the walk came to, and what made it.
abbrev pub invariant-loop-entry : goal.invariant-loop-entry
invariant-loop-entry g l = record {
  within : l.entry ≤ l.before;
  state : l.state ≡ entity_state l.logs.setting.exercise (station_at l.logs l.station) (log_before l.logs l.station l.entry) l.entity;
  since : l.since ≡ last_change_entry l.logs l.station l.entity l.entry;
}

abbrev pub decreases-loop-entry : goal.decreases-loop-entry
decreases-loop-entry g l = l.before - l.entry
