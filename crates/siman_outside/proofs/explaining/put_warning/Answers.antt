use Rattle.std.proofs.Common.{◌++◌, codes}
use Rattle.siman_print.specs.Records.{line_end}
use Rattle.siman_outside.specs.Reasons.{warning_text}
use Rattle.byte_files.proofs.Offered.{at_error, writes_part, writes_then}
use Rattle.siman_outside.proofs.explaining.put_warning.Goals as goal

pub returns-in_err-put : goal.returns-in_err-put
returns-in_err-put g c =
    at_error c.from_residual.result _ _ _ c.from_residual.ensures.0 (writes_part _ _ (codes "warning: ") (warning_text c.args.warning ++ line_end) c.in_err-put.ensures)

pub returns : goal.returns
returns g c = writes_then c.put_ended.result _ _ _ (codes "warning: ") (warning_text c.args.warning ++ line_end) c.in_ok-put.ensures (rw c.warning_reason.ensures at c.put_ended.ensures)
