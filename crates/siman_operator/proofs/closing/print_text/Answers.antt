-- A text that is out, and then flushed or not.
use Rattle.siman_operator.proofs.Flushed.{flushed}
use Rattle.siman_operator.proofs.closing.print_text.Goals as goal

pub returns-in-Ok : goal.returns-in-Ok
returns-in-Ok g c = rw c.as_bytes.ensures.value at (flushed _ _ _ _ _ c.in-Ok.ensures c.flush.ensures.kept c.flush.ensures.fault)
