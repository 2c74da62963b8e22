-- Each piece has its text.
use Rattle.std.proofs.Common.{refl}
use Rattle.siman_outside.proofs.warning.nobody_pieces.Goals as goal

pub returns : goal.returns
returns c = rw c.five_pieces.ensures refl
