-- The text, and then its line end.
use Rattle.byte_files.proofs.Offered.{at_error, writes_part, writes_then}
use Rattle.siman_outside.specs.Ending.{fault_text}
use Rattle.siman_print.specs.Records.{line_end}
use Rattle.siman_outside.proofs.fault.tell.Goals as goal

pub returns-in_err-put_fault_text : goal.returns-in_err-put_fault_text
returns-in_err-put_fault_text g c =
    at_error c.from_residual.result _ _ _ c.from_residual.ensures.0 (writes_part _ _ (fault_text c.args.fault) line_end c.in_err-put_fault_text.ensures)

pub returns : goal.returns
returns g c = writes_then c.put.result _ _ _ (fault_text c.args.fault) line_end c.in_ok-put_fault_text.ensures c.put.ensures
