-- Each piece has its text.
use Rattle.siman_operator.proofs.receiver.put_nobody.Goals as goal

pub returns : goal.returns
returns g c = rw c.three_pieces-text.ensures at c.put_pieces.ensures
