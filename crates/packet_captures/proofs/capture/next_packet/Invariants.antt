-- The next packet from here on is the next from the start.
use Rattle.std.specs.Option.{option_map}
use Rattle.packet_captures.proofs.Nexts.{LeadsTo}
use Rattle.packet_captures.proofs.capture.next_packet.Given as goal

abbrev pub invariant-loop : goal.invariant-loop
invariant-loop g l = LeadsTo (option_map (λ n. n.now) l.name) l.initial.window l.initial.state l.window l.state
