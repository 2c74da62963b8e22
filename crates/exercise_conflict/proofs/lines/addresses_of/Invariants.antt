use Rattle.std.proofs.Common.{◌≡◌, take}
use Rattle.exercise_conflict.specs.Lines.{addresses_of}
use Rattle.exercise_conflict.proofs.lines.addresses_of.Given as goal

-- The addresses so far.
abbrev pub invariant-loop-station : goal.invariant-loop-station
invariant-loop-station g l = l.addresses.items ≡ addresses_of (g.L.ExerciseLog.recording l.log) (take l.station-index l.stations)
