use Rattle.siman_lines.proofs.Refusing.{issue_refused}
use Rattle.siman_lines.proofs.Keeping.{keeps_issue}
use Rattle.siman_lines.proofs.ordering.issue_stamped.Goals as goal

pub returns-clause-keeps : goal.returns-clause-keeps
returns-clause-keeps g c = keeps_issue _ _ _ _ _ _ (record { now = c.moment_is_in_range.ensures.now; stamp = c.moment_is_in_range.ensures.stamp }) c.requires c.issue_order.ensures.ends

pub returns-clause-refused : goal.returns-clause-refused
returns-clause-refused g c = λ within. issue_refused _ _ _ _ _ c.issue_order.result within c.issue_order.ensures.ends
