use Rattle.exercise_chart.specs.Rows.{step_text}
use Rattle.exercise_chart.proofs.rows.put_step.Goals as goal

-- It stands where the frame has it.
pub returns : goal.returns
unfolding step_text
returns c = rw c.step_x.ensures.x at c.in_ok-put_words.ensures
