use Rattle.std.proofs.Common.{arith}
use Rattle.std.proofs.lemmas.Grind.{common_steps}
use Rattle.std.proofs.lemmas.Grind.{elements}
use Rattle.exercise_conflict.proofs.taking.NamesEntryNumberTest.passes.Goals as goal

pub get-requires : goal.get-requires
get-requires c κs = grind (arith, common_steps)

pub returns-in-Some : goal.returns-in-Some
returns-in-Some c = grind (arith, elements)

pub returns-in-None : goal.returns-in-None
returns-in-None c = grind (arith, elements)
