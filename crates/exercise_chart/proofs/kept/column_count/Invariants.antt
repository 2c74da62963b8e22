-- The number of kept stations so far.
use Rattle.std.proofs.Common.{◌≡◌, ◌≤◌}
use Rattle.exercise_chart.specs.Kept.{kept_below}
use Rattle.exercise_chart.proofs.kept.column_count.Given as goal

abbrev pub invariant-loop-station : goal.invariant-loop-station
invariant-loop-station g l = record {
  kept : l.kept ≡ kept_below (g.L.ExerciseLog.recording l.log) l.stations l.station;
  few : l.kept ≤ l.station;
}
