-- The second line, and then how the recording is mended.
use Rattle.byte_files.proofs.Offered.{at_error, writes_part, writes_then}
use Rattle.siman_outside.specs.Reasons.{reason_words, second_line, mend_line}
use Rattle.std.specs.Prelude.{option_map}
use Rattle.siman_outside.proofs.explaining.put_explained.Goals as goal

pub returns-in_err-put_second : goal.returns-in_err-put_second
returns-in_err-put_second g c =
    at_error c.from_residual.result _ _ _ c.from_residual.ensures.0
    (writes_part _ _ (second_line (reason_words c.args.reason)) (mend_line (option_map (λ name. name.now) c.args.begun)) c.in_err-put_second.ensures)

pub returns-in-Some : goal.returns-in-Some
returns-in-Some g c =
    writes_then c.put_mend.result _ _ _ (second_line (reason_words c.args.reason)) (mend_line (option_map (λ name. name.now) c.args.begun)) c.in_ok-put_second.ensures
    (rw c.in-Some.is c.put_mend.ensures)
