use Rattle.std.proofs.Common.{◌≡◌, ◌<◌, ℕ, length}
use Rattle.exercise_audit.specs.Turns.{turn_of}
use Rattle.exercise_audit.specs.Search.{IsTurn}
use Rattle.exercise_audit.proofs.search.first_turns.Given as goal

-- The stations so far have their turns.
abbrev pub invariant-loop-station : goal.invariant-loop-station
invariant-loop-station g l = record {
  count : length l.turns ≡ l.stations;
  each : (s : ℕ) → s < l.station → IsTurn l.course s (turn_of l.turns s);
}
