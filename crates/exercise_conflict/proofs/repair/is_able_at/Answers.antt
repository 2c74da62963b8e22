use Rattle.std.proofs.Common.{arith}
use Rattle.std.proofs.lemmas.Grind.{elements}
use Rattle.exercise_conflict.proofs.repair.is_able_at.Goals as goal

pub returns-then-entry-entry_count : goal.returns-then-entry-entry_count
returns-then-entry-entry_count g c = grind (arith, elements)
