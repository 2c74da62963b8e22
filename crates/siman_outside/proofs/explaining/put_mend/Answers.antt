-- The word and the name, and then the word NEW.
use Rattle.std.proofs.Common.{◌++◌, codes}
use Rattle.byte_files.proofs.Offered.{at_error, writes_part, writes_then}
use Rattle.siman_print.specs.Records.{line_end}
use Rattle.siman_outside.proofs.explaining.put_mend.Goals as goal

pub returns-in_err-put_both : goal.returns-in_err-put_both
returns-in_err-put_both g c =
    at_error c.from_residual.result _ _ _ c.from_residual.ensures.0
    (writes_part _ _ (codes "mend " ++ c.args.name.now) (codes " NEW" ++ line_end) (rw c.as_bytes.ensures.value at c.in_err-put_both.ensures))

pub returns : goal.returns
returns g c =
    writes_then c.put.result _ _ _ (codes "mend " ++ c.args.name.now) (codes " NEW" ++ line_end) (rw c.as_bytes.ensures.value at c.in_ok-put_both.ensures) c.put.ensures
