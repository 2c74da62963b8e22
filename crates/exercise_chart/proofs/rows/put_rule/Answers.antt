-- The rule ends before the step.
use Rattle.exercise_chart.specs.Rows.{rule_text}
use Rattle.exercise_chart.proofs.rows.put_rule.Goals as goal

pub returns : goal.returns
unfolding rule_text
returns c = rw c.rows_x.ensures.x at c.in_ok-put_element.ensures
