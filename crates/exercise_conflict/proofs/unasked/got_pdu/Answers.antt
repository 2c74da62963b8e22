use Rattle.exercise_conflict.specs.Clash.{got_pdu}
use Rattle.exercise_model.specs.Place.{own_event}
use Rattle.std.proofs.Common.{arith}
use Rattle.std.proofs.lemmas.Grind.{elements}
use Rattle.exercise_conflict.proofs.unasked.got_pdu.Goals as goal

pub returns-then-entry-entry_count : goal.returns-then-entry-entry_count
unfolding own_event got_pdu
returns-then-entry-entry_count g c = grind (arith, elements)
