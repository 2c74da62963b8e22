use Rattle.std.proofs.Common.{◌≡◌, drop}
use Rattle.exercise_conflict.specs.Cycles.{wait_at}
use Rattle.exercise_conflict.proofs.cycles.wait_at.Given as goal

-- No wait that was passed is of the station.
abbrev pub invariant-loop-wait : goal.invariant-loop-wait
invariant-loop-wait l = wait_at (drop l.wait-index l.waits) l.station ≡ wait_at l.waits l.station
