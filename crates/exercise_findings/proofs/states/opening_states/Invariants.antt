use Rattle.std.proofs.Common.{◌≡◌, ◌-◌, ℕ, length, drop}
use Rattle.exercise_model.specs.Station.{listed_state}
use Rattle.exercise_findings.specs.States.{state_in, AreUpTo}
use Rattle.exercise_findings.proofs.states.opening_states.Given as goal

-- The states are those of the last entities of the list, so many as are done.
abbrev pub invariant-loop-done : goal.invariant-loop-done
invariant-loop-done l = record {
  up_to : AreUpTo 0 l.states;
  states : (e : ℕ) → state_in l.states e ≡ listed_state (drop (length l.station.opening - l.done) l.station.opening) e;
}
