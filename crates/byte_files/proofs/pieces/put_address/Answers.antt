use Rattle.std.proofs.Common.{◌++◌, codes, decimal}
use Rattle.byte_files.proofs.Offered.{at_error, writes_part, writes_then}
use Rattle.byte_files.proofs.pieces.put_address.Goals as goal

pub returns-in_err-put_number : goal.returns-in_err-put_number
returns-in_err-put_number g c =
    at_error c.from_residual.result _ _ _ c.from_residual.ensures.0 (writes_part _ _ (decimal c.args.site) (codes ":" ++ decimal c.args.application) (rw c.from.ensures at c.in_err-put_number.ensures))

pub returns : goal.returns
returns g c = writes_then c.put_behind.result _ _ _ (decimal c.args.site) (codes ":" ++ decimal c.args.application) (rw c.from.ensures at c.in_ok-put_number.ensures) c.put_behind.ensures
