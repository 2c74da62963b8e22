use Rattle.siman_exercise_commands.specs.Assumed.{AreDecisions}
use Rattle.siman_exercise_commands.proofs.assumed.decisions_of.Given as goal

abbrev pub invariant-loop-entry : goal.invariant-loop-entry
invariant-loop-entry g l = AreDecisions l.findings l.entry l.decisions
