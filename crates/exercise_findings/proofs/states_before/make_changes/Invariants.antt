use Rattle.exercise_findings.specs.States.{AreStates}
use Rattle.exercise_findings.proofs.states_before.make_changes.Given as goal

-- The changes of the entries so far are made.
abbrev pub invariant-loop-entry : goal.invariant-loop-entry
invariant-loop-entry g l = AreStates l.findings l.entry l.states.items
