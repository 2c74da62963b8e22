-- each datagram is sent by one line
use Rattle.siman_tests.proofs.uses.plan.names_each_datagram.Goals as goal

pub returns : goal.returns
returns c = λ source is. (rw is at c.recordings_have_what_lines_did.ensures).count
