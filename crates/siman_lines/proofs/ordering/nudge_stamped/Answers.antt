use Rattle.siman_lines.proofs.Refusing.{nudge_refused}
use Rattle.siman_lines.proofs.Keeping.{keeps_nudge}
use Rattle.siman_lines.proofs.ordering.nudge_stamped.Goals as goal

pub returns-clause-keeps : goal.returns-clause-keeps
returns-clause-keeps g c = keeps_nudge _ _ _ _ _ (record { now = c.moment_is_in_range.ensures.now; stamp = c.moment_is_in_range.ensures.stamp }) c.send_repeat.ensures.ends

pub returns-clause-refused : goal.returns-clause-refused
returns-clause-refused g c = λ within. nudge_refused _ _ _ _ c.send_repeat.result within c.send_repeat.ensures.ends
