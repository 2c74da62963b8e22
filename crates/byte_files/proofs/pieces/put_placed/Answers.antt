use Rattle.byte_files.proofs.Offered.{at_error, writes_part, writes_then}
use Rattle.byte_files.specs.Pieces.{pieces_text}
use Rattle.byte_files.proofs.pieces.put_placed.Goals as goal

pub returns-in_err-put_pieces : goal.returns-in_err-put_pieces
returns-in_err-put_pieces g c =
    at_error c.from_residual.result _ _ _ c.from_residual.ensures.0
    (writes_part _ _ (pieces_text c.args.placed.place) (pieces_text c.args.placed.text) c.in_err-put_pieces.ensures)

pub returns : goal.returns
returns g c =
    writes_then c.put_pieces-2.result _ _ _ (pieces_text c.args.placed.place) (pieces_text c.args.placed.text)
    c.in_ok-put_pieces.ensures c.put_pieces-2.ensures
