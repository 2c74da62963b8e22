use Rattle.std.proofs.Common.{arith}
use Rattle.std.proofs.lemmas.Grind.{common_steps}
use Rattle.siman_lines.proofs.Addresses.{peer_is}
use Rattle.siman_lines.proofs.udp.UdpLine.is_stranger.Goals as goal
use Rattle.siman_lines.proofs.udp.UdpLine.is_stranger.Goals.{then-self, else-self}

pub returns : goal.returns
returns g c = elim c.if-self.branch [
  | then-self w ↦ grind (arith, common_steps)
  | else-self w ↦ let e = peer_is c.args.self.now.peers.items c.args.from in grind (arith, common_steps, e, w.contains.ensures.value, w.deref.ensures.value)
]
