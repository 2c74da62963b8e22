-- The blanks, and then the explanation.
use Rattle.std.proofs.Common.{◌++◌, codes}
use Rattle.byte_files.proofs.Offered.{at_error, writes_part, writes_then}
use Rattle.siman_print.specs.Records.{line_end}
use Rattle.byte_files.specs.Pieces.{placed_text}
use Rattle.siman_operator.proofs.explanation.put_line.Goals as goal

pub returns-in_err-put : goal.returns-in_err-put
returns-in_err-put g c =
    at_error c.from_residual.result _ _ _ c.from_residual.ensures.0
    (writes_part _ _ (codes "  ") (placed_text c.args.explanation ++ line_end) c.in_err-put.ensures)

pub returns : goal.returns
returns g c = writes_then c.put_ended.result _ _ _ (codes "  ") (placed_text c.args.explanation ++ line_end) c.in_ok-put.ensures c.put_ended.ensures
