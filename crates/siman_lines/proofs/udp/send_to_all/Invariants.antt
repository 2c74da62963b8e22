use Rattle.std.proofs.Common.{take}
use Rattle.siman_lines.specs.Socket.{Telling}
use Rattle.siman_lines.specs.Udp.{SendsToAll}
use Rattle.siman_lines.proofs.udp.send_to_all.Given as goal

-- it was sent to the peers so far
abbrev pub invariant-loop-peer : goal.invariant-loop-peer
invariant-loop-peer g l =
    let told : Telling g.row.S.Denot = record { handed = g.S.Socket.handed; came = g.S.Socket.came; failed = g.S.Socket.failed } in
    SendsToAll told l.fn.datagram (take l.peer-index l.peers) l.fn.socket l.socket l.first
