-- The explanation, and then the line end.
use Rattle.byte_files.proofs.Offered.{at_error, writes_part, writes_then}
use Rattle.siman_print.specs.Records.{line_end}
use Rattle.byte_files.specs.Pieces.{placed_text}
use Rattle.siman_operator.proofs.explanation.put_ended.Goals as goal

pub returns-in_err-put_placed : goal.returns-in_err-put_placed
returns-in_err-put_placed g c =
    at_error c.from_residual.result _ _ _ c.from_residual.ensures.0
    (writes_part _ _ (placed_text c.args.explanation) (line_end) c.in_err-put_placed.ensures)

pub returns : goal.returns
returns g c = writes_then c.put.result _ _ _ (placed_text c.args.explanation) (line_end) c.in_ok-put_placed.ensures c.put.ensures
