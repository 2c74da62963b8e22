use Rattle.std.proofs.Common.{◌≡◌}
use Rattle.exercise_model.specs.Account.{values_below}
use Rattle.exercise_review.specs.Tally.{station_counts}
use Rattle.exercise_review.proofs.tally.counts_of_stations.Given as goal

-- The counts of the stations so far.
abbrev pub invariant-loop-station : goal.invariant-loop-station
invariant-loop-station g l = l.counts.items ≡ values_below (station_counts (g.L.ExerciseLog.recording l.log)) l.station
