use Rattle.siman_lines.proofs.Passing.{returned, kept}
use Rattle.siman_lines.proofs.udp.UdpLineLine.receive.Goals as goal

pub returns-clause-within : goal.returns-clause-within
returns-clause-within g c =
    returned _ _ c.receive_next.new.buffer c.args.self.now c.receive_next.new.self c.receive_next.result c.receive_next.ensures.ends

pub returns-clause-none : goal.returns-clause-none
returns-clause-none g c = kept _ _ c.receive_next.new.buffer c.args.self.now c.receive_next.new.self c.receive_next.result c.receive_next.ensures.ends
