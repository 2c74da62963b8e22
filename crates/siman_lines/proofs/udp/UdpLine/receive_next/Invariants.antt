use Rattle.std.proofs.Common.{◌≡◌, List, length}
use Rattle.siman_lines.specs.Socket.{Addressed, Telling}
use Rattle.siman_lines.specs.Udp.{PassesOver}
use Rattle.siman_lines.proofs.udp.UdpLine.receive_next.Given as goal

-- so many datagrams were passed over
abbrev pub invariant-loop : goal.invariant-loop
invariant-loop g l =
    let told : Telling g.row.S.Denot = record { handed = g.S.Socket.handed; came = g.S.Socket.came; failed = g.S.Socket.failed } in
    (ds : List Addressed) × (length ds ≡ l.counter) × PassesOver told ds l.fn.self l.self
