use Rattle.exercise_conflict.proofs.Backs.{IsSoFar}
use Rattle.exercise_conflict.proofs.cycles.push_waiting_path.Given as goal

-- What was added so far begins the way back, which goes on from here.
abbrev pub invariant-loop-step : goal.invariant-loop-step
invariant-loop-step l = IsSoFar l.waits l.station l.from l.initial.way.items l.way.items l.at l._step
