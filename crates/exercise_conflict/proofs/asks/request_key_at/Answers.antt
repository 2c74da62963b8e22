use Rattle.exercise_conflict.specs.Lacks.{request_key_at}
use Rattle.std.proofs.Common.{arith}
use Rattle.std.proofs.lemmas.Grind.{elements}
use Rattle.exercise_conflict.proofs.asks.request_key_at.Goals as goal

pub returns-then-entry-entry_count : goal.returns-then-entry-entry_count
unfolding request_key_at
returns-then-entry-entry_count g c = grind (arith, elements)
