use Rattle.std.proofs.Common.{◌≡◌, ◌≤◌, length, take}
use Rattle.exercise_model.specs.History.{log_at}
use Rattle.exercise_check.specs.Sequence.{sequence_of}
use Rattle.exercise_conflict.proofs.taking.count_done.Given as goal

-- The steps so far took so many entries of the station.
abbrev pub invariant-loop-step : goal.invariant-loop-step
invariant-loop-step g l = record {
  done : l.done ≡ length (log_at l.station (sequence_of (g.L.ExerciseLog.recording l.log) (take l.step-index l.before)));
  few : l.done ≤ l.step-index;
}
