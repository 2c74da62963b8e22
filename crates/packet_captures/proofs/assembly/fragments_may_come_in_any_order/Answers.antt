use Rattle.packet_captures.proofs.Handings.{whole_handed}
use Rattle.packet_captures.proofs.assembly.fragments_may_come_in_any_order.Goals as goal

pub returns : goal.returns
returns c = whole_handed
