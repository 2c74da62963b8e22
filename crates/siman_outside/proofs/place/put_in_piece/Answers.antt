-- The number, and then the name.
use Rattle.std.proofs.Common.{◌++◌, decimal}
use Rattle.byte_files.proofs.Offered.{at_error, writes_part, writes_then}
use Rattle.siman_outside.specs.Ending.{piece_words}
use Rattle.siman_outside.proofs.place.put_in_piece.Goals as goal

pub returns-in_err-put_number : goal.returns-in_err-put_number
returns-in_err-put_number g c =
    at_error c.from_residual.result _ _ _ c.from_residual.ensures.0
    (writes_part _ _ (c.args.words.now ++ decimal c.args.number) (piece_words c.args.name.now) c.in_err-put_number.ensures)

pub returns : goal.returns
returns g c =
    writes_then c.put_both.result _ _ _ (c.args.words.now ++ decimal c.args.number) (piece_words c.args.name.now) c.in_ok-put_number.ensures
    (rw c.as_bytes.ensures.value at c.put_both.ensures)
