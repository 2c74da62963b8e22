-- What was not done and what failed, and then the warning.
use Rattle.byte_files.proofs.Offered.{at_error, writes_part, writes_then}
use Rattle.siman_operator.specs.Came.{failed_text, warning_text}
use Rattle.siman_operator.proofs.came.put_report.Goals as goal

pub returns-in_err-put_failed : goal.returns-in_err-put_failed
returns-in_err-put_failed g c =
    at_error c.from_residual.result _ _ _ c.from_residual.ensures.0
    (writes_part _ _ (failed_text c.args.number c.args.came) (warning_text c.args.number c.args.came.nobody) c.in_err-put_failed.ensures)

pub returns : goal.returns
returns g c =
    writes_then c.put_any_warning.result _ _ _ (failed_text c.args.number c.args.came) (warning_text c.args.number c.args.came.nobody) c.in_ok-put_failed.ensures
    c.put_any_warning.ensures
