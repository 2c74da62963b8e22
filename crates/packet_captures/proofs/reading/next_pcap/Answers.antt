use Rattle.std.proofs.Common.{[]}
use Rattle.packet_captures.proofs.Passing.{passes-held}
use Rattle.packet_captures.proofs.reading.next_pcap.Goals as goal

pub returns-clause-passed : goal.returns-clause-passed
returns-clause-passed g c =
    rw c.pass.ensures (passes-held 24 c.args.window.now c.hold_whole.new.window [] c.in_ok-hold_whole.ensures.same c.in_ok-hold_whole.ensures.held)
