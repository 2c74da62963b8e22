-- The number, and then the station that is none.
use Rattle.byte_files.proofs.Offered.{at_error, writes_part, writes_then}
use Rattle.siman_operator.specs.Came.{at_line}
use Rattle.siman_operator.specs.Receiver.{nobody_text}
use Rattle.siman_operator.proofs.came.put_nobody_at.Goals as goal

pub returns-in_err-put_number : goal.returns-in_err-put_number
returns-in_err-put_number g c =
    at_error c.from_residual.result _ _ _ c.from_residual.ensures.0
    (writes_part _ _ (at_line c.args.number) (nobody_text c.args.site c.args.application) c.in_err-put_number.ensures)

pub returns : goal.returns
returns g c =
    writes_then c.put_nobody.result _ _ _ (at_line c.args.number) (nobody_text c.args.site c.args.application) c.in_ok-put_number.ensures c.put_nobody.ensures
