use Rattle.siman_print.specs.Records.{line_end}
use Rattle.siman_outside.specs.Reasons.{reason_words}
use Rattle.byte_files.proofs.Offered.{at_error, writes_part, writes_then}
use Rattle.siman_outside.proofs.explaining.put_ended.Goals as goal

pub returns-in_err-put_words : goal.returns-in_err-put_words
returns-in_err-put_words g c =
    at_error c.from_residual.result _ _ _ c.from_residual.ensures.0 (writes_part _ _ (reason_words c.args.reason) (line_end) c.in_err-put_words.ensures)

pub returns : goal.returns
returns g c = writes_then c.put.result _ _ _ (reason_words c.args.reason) (line_end) c.in_ok-put_words.ensures c.put.ensures
