use Rattle.exercise_chart.proofs.lines.put_arrow_line.Goals as goal

pub returns : goal.returns
returns c = rw (c.colour.ensures, c.head.ensures, c.of_any-tone.ensures) at c.in_ok-put_element.ensures
