-- That it is a warning, and then of what.
use Rattle.std.proofs.Common.{◌++◌, codes}
use Rattle.byte_files.proofs.Offered.{at_error, writes_part, writes_then}
use Rattle.siman_operator.specs.Came.{at_line}
use Rattle.siman_operator.specs.Receiver.{nobody_text}
use Rattle.siman_operator.proofs.came.put_warning.Goals as goal

pub returns-in_err-put : goal.returns-in_err-put
returns-in_err-put g c =
    at_error c.from_residual.result _ _ _ c.from_residual.ensures.0
    (writes_part _ _ (codes "warning: ") (at_line c.args.number ++ nobody_text c.args.site c.args.application) c.in_err-put.ensures)

pub returns : goal.returns
returns g c =
    writes_then c.put_nobody_at.result _ _ _ (codes "warning: ") (at_line c.args.number ++ nobody_text c.args.site c.args.application) c.in_ok-put.ensures
    c.put_nobody_at.ensures
