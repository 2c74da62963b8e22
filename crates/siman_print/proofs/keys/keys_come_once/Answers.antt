-- The laws, by the kinds of PDUs.
use Rattle.siman_print.proofs.KeysApart.{head_apart, entry_apart}
use Rattle.siman_print.proofs.keys.keys_come_once.Goals as goal

pub returns-clause-heads : goal.returns-clause-heads
returns-clause-heads c = head_apart

pub returns-clause-entries : goal.returns-clause-entries
returns-clause-entries c = entry_apart
