use Rattle.packet_captures.proofs.AgreementsLinks.{contents_agree}
use Rattle.packet_captures.proofs.carried.cut_frames_say_what_is_so.Goals as goal

pub returns : goal.returns
returns c = contents_agree
