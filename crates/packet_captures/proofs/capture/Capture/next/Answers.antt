use Rattle.std.specs.Option.{option_map}
use Rattle.packet_captures.proofs.Captures.{reads-next}
use Rattle.packet_captures.proofs.capture.Capture.next.Goals as goal

pub returns-clause-packet : goal.returns-clause-packet
returns-clause-packet g c =
    let i = c.self.inside in
    rw (← c.self.view_is) (reads-next (option_map (λ n. n.now) i.name) i.window i.state c.next_packet.new.window c.next_packet.new.state c.next_packet.result c.next_packet.ensures)
