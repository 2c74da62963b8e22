use Rattle.std.proofs.Common.{◌++◌}
use Rattle.byte_files.proofs.Offered.{at_error, writes_part, writes_then}
use Rattle.byte_files.specs.Pieces.{piece_text}
use Rattle.byte_files.proofs.pieces.put_four.Goals as goal

pub returns-in_err-put_piece : goal.returns-in_err-put_piece
returns-in_err-put_piece g c =
    at_error c.from_residual.result _ _ _ c.from_residual.ensures.0
    (writes_part _ _ (piece_text c.args.first) (piece_text c.args.second ++ (piece_text c.args.third ++ piece_text c.args.fourth)) c.in_err-put_piece.ensures)

pub returns : goal.returns
returns g c =
    writes_then c.put_three.result _ _ _ (piece_text c.args.first) (piece_text c.args.second ++ (piece_text c.args.third ++ piece_text c.args.fourth))
    c.in_ok-put_piece.ensures c.put_three.ensures
