use Rattle.std.proofs.Common.{◌<◌, ◌≤◌, ◌-◌, ℕ, length}
use Rattle.exercise_review.proofs.Stationed.{number_at}
use Rattle.exercise_review.proofs.parties.stations_below.Given as goal

-- Those before the first bound have smaller numbers, and those from the second on have none.
abbrev pub invariant-loop-low : goal.invariant-loop-low
invariant-loop-low g l = record {
  most : l.high ≤ length (g.L.ExerciseLog.recording l.log).setting.stations;
  order : l.low ≤ l.high;
  below : (s : ℕ) → s < l.low → number_at (g.L.ExerciseLog.recording l.log) s < l.number;
  from : (s : ℕ) → l.high ≤ s → s < length (g.L.ExerciseLog.recording l.log).setting.stations → l.number ≤ number_at (g.L.ExerciseLog.recording l.log) s;
}

abbrev pub decreases-loop-low : goal.decreases-loop-low
decreases-loop-low g l = l.high - l.low
