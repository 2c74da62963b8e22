-- The same bytes are ahead.
use Rattle.packet_captures.specs.Window.{SameAhead}
use Rattle.packet_captures.proofs.window.Window.fetch_to.Given as goal

abbrev pub invariant-loop : goal.invariant-loop
invariant-loop g l = SameAhead l.initial.self l.self
