-- The columns of the stations so far, and their number.
use Rattle.std.proofs.Common.{◌≡◌, ◌≤◌}
use Rattle.exercise_model.specs.Account.{values_below}
use Rattle.exercise_chart.specs.Kept.{kept_below, column_of}
use Rattle.exercise_chart.proofs.kept.kept_columns.Given as goal

abbrev pub invariant-loop-station : goal.invariant-loop-station
invariant-loop-station g l = record {
  columns : l.columns.items ≡ values_below (column_of (g.L.ExerciseLog.recording l.log) l.stations) l.station;
  kept : l.kept ≡ kept_below (g.L.ExerciseLog.recording l.log) l.stations l.station;
  few : l.kept ≤ l.station;
}
