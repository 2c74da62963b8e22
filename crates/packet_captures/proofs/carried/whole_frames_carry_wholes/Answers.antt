use Rattle.packet_captures.proofs.Wholes.{contents_whole}
use Rattle.packet_captures.proofs.carried.whole_frames_carry_wholes.Goals as goal

pub returns : goal.returns
returns c = contents_whole
