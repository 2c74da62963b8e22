use Rattle.std.proofs.Common.{◌≡◌, ◌-◌, take, drop, arith}
use Rattle.std.proofs.lemmas.Grind.{common_steps}
use Rattle.packet_captures.specs.Pcap.{record_head}
use Rattle.packet_captures.proofs.HeldFronts.{record-held}
use Rattle.packet_captures.proofs.reading.take_record.Goals as goal

pub returns-clause-packet : goal.returns-clause-packet
returns-clause-packet g c =
    let w = c.args.window.now in
    let h : c.record_head-record.result ≡ record_head c.args.head c.args.wanted w.at (take 16 w.held) = grind (arith, common_steps) in
    let k : c.pass_keeping.new.self.kept ≡ take (c.args.size - 16) (drop 16 w.held) = cc in
    record-held c.args.head c.args.wanted w.at c.args.size w.held w.rest c.record_head-record.result c.pass_keeping.new.self.kept c.requires.0 c.requires.1 h k
