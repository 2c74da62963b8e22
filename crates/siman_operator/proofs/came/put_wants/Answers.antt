-- What is told of memory, and then of what was not written.
use Rattle.byte_files.proofs.Offered.{at_error, writes_part, writes_then}
use Rattle.siman_operator.specs.Came.{memory_text, output_text}
use Rattle.siman_operator.proofs.came.put_wants.Goals as goal

pub returns-in_err-put_memory : goal.returns-in_err-put_memory
returns-in_err-put_memory g c =
    at_error c.from_residual.result _ _ _ c.from_residual.ensures.0
    (writes_part _ _ (memory_text c.args.memory) (output_text c.args.failed) c.in_err-put_memory.ensures)

pub returns : goal.returns
returns g c = writes_then c.put_output.result _ _ _ (memory_text c.args.memory) (output_text c.args.failed) c.in_ok-put_memory.ensures c.put_output.ensures
