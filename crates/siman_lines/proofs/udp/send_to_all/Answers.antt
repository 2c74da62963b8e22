use Rattle.std.proofs.Common.{◌∙◌, Err, arith}
use Rattle.std.proofs.lemmas.Grind.{common_steps}
use Rattle.siman_lines.proofs.Sockets.{send_at, sent_at}
use Rattle.siman_lines.proofs.udp.send_to_all.Goals as goal
use Rattle.siman_lines.proofs.udp.send_to_all.Goals.{in-Err, in_default}

pub loop-peer-preserved : goal.loop-peer-preserved
loop-peer-preserved g c = elim c.match-send_to.branch [
  | in-Err w ↦
      let says = w.in-Err.ensures in
      send_at _ _ c.args.peers.now c.loop-peer.peer-index _ _ _ _ c.loop-peer.first _ (Err w.in-Err.kind) c.loop-peer-test.true (grind (arith, common_steps))
      (w.first-is ∙ rw w.v4_of.ensures at w.or-first.ensures) c.loop-peer.invariant tt says.lost says.came tt says.fails
  | in_default w ↦
      let says = w.in_default.ensures in
      sent_at _ _ c.args.peers.now c.loop-peer.peer-index _ _ _ _ c.loop-peer.first _ _ c.loop-peer-test.true (grind (arith, common_steps)) w.first-is
      c.loop-peer.invariant says.handed says.came says.worked
]
