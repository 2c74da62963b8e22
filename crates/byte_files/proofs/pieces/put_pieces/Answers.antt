use Rattle.std.proofs.Common.{◌++◌}
use Rattle.byte_files.proofs.Offered.{at_error, writes_part, writes_then}
use Rattle.byte_files.specs.Pieces.{piece_text}
use Rattle.byte_files.proofs.pieces.put_pieces.Goals as goal

pub returns-in_err-put_piece : goal.returns-in_err-put_piece
returns-in_err-put_piece g c =
    at_error c.from_residual.result _ _ _ c.from_residual.ensures.0
    (writes_part _ _ (piece_text c.args.pieces.first) (piece_text c.args.pieces.second ++ (piece_text c.args.pieces.third ++ (piece_text c.args.pieces.fourth ++ piece_text c.args.pieces.fifth))) c.in_err-put_piece.ensures)

pub returns : goal.returns
returns g c =
    writes_then c.put_four.result _ _ _ (piece_text c.args.pieces.first) (piece_text c.args.pieces.second ++ (piece_text c.args.pieces.third ++ (piece_text c.args.pieces.fourth ++ piece_text c.args.pieces.fifth)))
    c.in_ok-put_piece.ensures c.put_four.ensures
