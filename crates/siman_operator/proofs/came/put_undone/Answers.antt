-- Why it was not done, and then that a call failed.
use Rattle.byte_files.proofs.Offered.{at_error, writes_part, writes_then}
use Rattle.siman_operator.specs.Came.{is_lost, refused_text, line_text}
use Rattle.siman_operator.proofs.came.put_undone.Goals as goal

pub returns-in_err-put_refused : goal.returns-in_err-put_refused
returns-in_err-put_refused g c =
    at_error c.from_residual.result _ _ _ c.from_residual.ensures.0
    (writes_part _ _ (refused_text c.args.number c.args.came c.args.came.line.done) (line_text c.args.number (is_lost c.args.came) c.args.came.trouble) c.in_err-put_refused.ensures)

pub returns : goal.returns
returns g c =
    writes_then c.put_lost.result _ _ _ (refused_text c.args.number c.args.came c.args.came.line.done) (line_text c.args.number (is_lost c.args.came) c.args.came.trouble) c.in_ok-put_refused.ensures
    (rw c.is_lost.ensures at c.put_lost.ensures)
