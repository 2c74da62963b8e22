use Rattle.std.proofs.Common.{◌≡◌, ◌≤◌, length, None}
use Rattle.exercise_model.specs.Place.{log_before, first_below}
use Rattle.exercise_conflict.specs.StepClash.{has_rank}
use Rattle.exercise_conflict.proofs.taking.first_ranked.Given as goal

-- So many entries of the station were passed, and none of them was it.
abbrev pub invariant-loop-entry : goal.invariant-loop-entry
invariant-loop-entry g l = record {
  rank : l.rank ≡ length (log_before (g.L.ExerciseLog.recording l.log) l.station l.entry);
  few : l.rank ≤ l.entry;
  none : first_below (has_rank (g.L.ExerciseLog.recording l.log) l.station l.done) l.entry ≡ None;
}
