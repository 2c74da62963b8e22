use Rattle.exercise_review.specs.Entries.{bytes_received, pdu_received}
use Rattle.std.proofs.Common.{arith}
use Rattle.std.proofs.lemmas.Grind.{elements}
use Rattle.exercise_review.proofs.keys.got_at.Goals as goal

pub returns-then-entry-entry_count : goal.returns-then-entry-entry_count
unfolding pdu_received bytes_received
returns-then-entry-entry_count g c = grind (arith, elements)
