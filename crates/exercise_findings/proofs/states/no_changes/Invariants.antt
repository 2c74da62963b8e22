use Rattle.exercise_findings.specs.States.{AreStatesBelow}
use Rattle.exercise_findings.proofs.states.no_changes.Given as goal

-- So many stations have their states.
abbrev pub invariant-loop-station : goal.invariant-loop-station
invariant-loop-station g l = AreStatesBelow (g.L.ExerciseLog.recording l.log) 0 l.station l.states.items
