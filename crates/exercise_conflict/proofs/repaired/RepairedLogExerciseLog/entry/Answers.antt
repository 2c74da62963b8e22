use Rattle.std.proofs.Common.{arith}
use Rattle.std.proofs.lemmas.Grind.{common_steps, elements}
use Rattle.exercise_conflict.proofs.repaired.RepairedLogExerciseLog.entry.Goals as goal

pub index-slot-requires : goal.index-slot-requires
index-slot-requires g c = grind (arith, common_steps)

pub entry-requires : goal.entry-requires
entry-requires g c = grind (arith, common_steps)

pub returns-clause-entry : goal.returns-clause-entry
returns-clause-entry g c = grind (arith, elements)

pub returns-clause-fits : goal.returns-clause-fits
returns-clause-fits g c = grind (arith, common_steps)
