use Rattle.byte_files.proofs.Offered.{at_error, writes_part, writes_then}
use Rattle.byte_files.specs.Pieces.{piece_text}
use Rattle.byte_files.proofs.pieces.put_two.Goals as goal

pub returns-in_err-put_piece : goal.returns-in_err-put_piece
returns-in_err-put_piece g c =
    at_error c.from_residual.result _ _ _ c.from_residual.ensures.0
    (writes_part _ _ (piece_text c.args.first) (piece_text c.args.second) c.in_err-put_piece.ensures)

pub returns : goal.returns
returns g c =
    writes_then c.put_piece-2.result _ _ _ (piece_text c.args.first) (piece_text c.args.second)
    c.in_ok-put_piece.ensures c.put_piece-2.ensures
