use Rattle.packet_captures.proofs.PcapSpellings.{pcap-read}
use Rattle.packet_captures.proofs.laws.pcap_files_are_read.Goals as goal

pub returns : goal.returns
returns c p snapshot rs link f = pcap-read p snapshot rs link f
