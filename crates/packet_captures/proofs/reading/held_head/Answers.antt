use Rattle.std.proofs.Common.{◌≡◌, List, ℕ, take, arith}
use Rattle.std.proofs.lemmas.Grind.{common_steps}
use Rattle.packet_captures.specs.Pcap.{pcap_head}
use Rattle.packet_captures.proofs.HeldFronts.{front-known}
use Rattle.packet_captures.proofs.reading.held_head.Goals as goal

pub returns : goal.returns
returns g c =
    let w = c.args.window.now in
    let e : c.pcap_head.result ≡ pcap_head c.args.kind w.at (take 24 w.held) = grind (arith, common_steps) in
    front-known (λ (h : List ℕ). pcap_head c.args.kind w.at h) c.pcap_head.result 24 w.held w.rest c.requires e
