use Rattle.exercise_chart.proofs.rows.put_clock_words.Goals as goal

-- It stands where the frame has it.
pub returns : goal.returns
returns c = rw c.clock_x.ensures.x at c.in_ok-put_words.ensures
