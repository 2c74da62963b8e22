-- One text is written behind the other.
use Rattle.byte_files.specs.Pieces.{pieces_text}
use Rattle.byte_files.proofs.Offered.{at_error, writes_part, writes_then}
use Rattle.siman_outside.proofs.explaining.put_two.Goals as goal

pub returns-in_err-put_pieces : goal.returns-in_err-put_pieces
returns-in_err-put_pieces g c =
    at_error c.from_residual.result _ _ _ c.from_residual.ensures.0
    (writes_part _ _ (pieces_text c.args.first) (pieces_text c.args.second) c.in_err-put_pieces.ensures)

pub returns : goal.returns
returns g c =
    writes_then c.put_pieces-2.result _ _ _ (pieces_text c.args.first) (pieces_text c.args.second) c.in_ok-put_pieces.ensures
    c.put_pieces-2.ensures
