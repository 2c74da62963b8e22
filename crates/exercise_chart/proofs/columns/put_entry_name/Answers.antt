use Rattle.exercise_chart.specs.Columns.{entry_name}
use Rattle.exercise_chart.proofs.columns.put_entry_name.Goals as goal

-- It stands where the frame has it.
pub returns : goal.returns
unfolding entry_name
returns c = rw c.words_x.ensures.x at c.in_ok-put_words.ensures
