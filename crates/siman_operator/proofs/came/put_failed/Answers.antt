-- What was not done, and then what failed.
use Rattle.byte_files.proofs.Offered.{at_error, writes_part, writes_then}
use Rattle.siman_operator.specs.Came.{is_out_of_memory, is_unwritten, rejection_text, shortage_text}
use Rattle.siman_operator.proofs.came.put_failed.Goals as goal

pub returns-in_err-put_undone : goal.returns-in_err-put_undone
returns-in_err-put_undone g c =
    at_error c.from_residual.result _ _ _ c.from_residual.ensures.0
    (writes_part _ _ (rejection_text c.args.number c.args.came) (shortage_text (is_out_of_memory c.args.came) (is_unwritten c.args.came)) c.in_err-put_undone.ensures)

pub returns : goal.returns
returns g c =
    writes_then c.put_wants.result _ _ _ (rejection_text c.args.number c.args.came) (shortage_text (is_out_of_memory c.args.came) (is_unwritten c.args.came))
    c.in_ok-put_undone.ensures (rw (c.is_out_of_memory.ensures, c.is_unwritten.ensures) at c.put_wants.ensures)
