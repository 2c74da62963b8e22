use Rattle.exercise_chart.specs.Columns.{step_name}
use Rattle.exercise_chart.proofs.columns.put_step_name.Goals as goal

-- It stands where the frame has it.
pub returns : goal.returns
unfolding step_name
returns c = rw c.step_x.ensures.x at c.in_ok-put_words.ensures
