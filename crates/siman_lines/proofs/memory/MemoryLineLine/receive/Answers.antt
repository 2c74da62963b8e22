use Rattle.std.proofs.Common.{arith}
use Rattle.std.proofs.lemmas.Grind.{common_steps}
use Rattle.siman_lines.proofs.Handing.{map-take_more}
use Rattle.siman_lines.proofs.memory.MemoryLineLine.receive.Goals as goal

pub returns-clause-within : goal.returns-clause-within
returns-clause-within c =
    let line = c.is_failing.new.self in
    let datagram = c.in-Some.datagram.now in
    let lookup = rw c.deref.ensures.value at c.in-Some.ensures.lookup in
    let more = map-take_more (λ d. d.items) line.coming.items line.given datagram lookup.3.0 lookup.1 in
    (datagram.items, grind (arith, common_steps), grind (arith, common_steps), grind (arith, common_steps), grind (arith, common_steps, more))
