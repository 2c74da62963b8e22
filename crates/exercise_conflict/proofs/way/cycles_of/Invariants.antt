use Rattle.std.proofs.Common.{◌≡◌, map}
use Rattle.exercise_conflict.specs.Ways.{cycles_below, stations_in}
use Rattle.exercise_conflict.proofs.way.cycles_of.Given as goal

-- The cycles at the stations so far.
abbrev pub invariant-loop-station : goal.invariant-loop-station
invariant-loop-station g l = map stations_in l.cycles.items ≡ cycles_below l.waits.items l.station
