-- The first line, and then the second.
use Rattle.byte_files.proofs.Offered.{at_error, writes_part, writes_then}
use Rattle.siman_operator.specs.Came.{result_line}
use Rattle.siman_operator.specs.Explanation.{second_line}
use Rattle.siman_operator.proofs.came.put_told.Goals as goal

pub returns-in_err-put_at_line : goal.returns-in_err-put_at_line
returns-in_err-put_at_line g c =
    at_error c.from_residual.result _ _ _ c.from_residual.ensures.0
    (writes_part _ _ (result_line c.args.number c.args.name.now) (second_line c.args.explanation) c.in_err-put_at_line.ensures)

pub returns : goal.returns
returns g c = writes_then c.put_second.result _ _ _ (result_line c.args.number c.args.name.now) (second_line c.args.explanation) c.in_ok-put_at_line.ensures c.put_second.ensures
