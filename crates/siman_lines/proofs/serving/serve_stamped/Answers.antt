use Rattle.siman_lines.proofs.Refusing.{serve_refused}
use Rattle.siman_lines.proofs.Keeping.{keeps_serves}
use Rattle.siman_lines.proofs.serving.serve_stamped.Goals as goal

pub returns-clause-keeps : goal.returns-clause-keeps
returns-clause-keeps g c = keeps_serves _ _ _ _ _ c.serve_turns.result (record { now = c.moment_is_in_range.ensures.now; stamp = c.moment_is_in_range.ensures.stamp }) c.serve_turns.ensures.ends

pub returns-clause-refused : goal.returns-clause-refused
returns-clause-refused g c = λ within. serve_refused _ _ _ _ _ c.serve_turns.result within c.serve_turns.ensures.ends
