-- The bytes, and then their padding and what follows.
use Rattle.std.proofs.Common.{◌++◌}
use Rattle.byte_files.proofs.Offered.{at_error, writes_part, writes_then}
use Rattle.exercise_recording.specs.Captures.Blocks.{padding_text}
use Rattle.exercise_recording.proofs.captures.block.put_padded.Goals as goal

pub returns-in_err-put : goal.returns-in_err-put
returns-in_err-put g c =
    at_error c.from_residual.result _ _ _ c.from_residual.ensures.0
    (writes_part _ _ c.args.bytes.now (padding_text c.args.size ++ c.args.behind.now) c.in_err-put.ensures)

pub returns : goal.returns
returns g c =
    writes_then c.put_both.result _ _ _ c.args.bytes.now (padding_text c.args.size ++ c.args.behind.now) c.in_ok-put.ensures
    (rw c.padded.ensures at c.put_both.ensures)
