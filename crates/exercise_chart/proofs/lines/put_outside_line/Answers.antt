use Rattle.exercise_chart.proofs.lines.put_outside_line.Goals as goal

-- Each place is where the frame has it.
pub returns : goal.returns
returns c =
    rw (c.column_x-x.ensures.x, c.step_y-y.ensures.y, c.colour.ensures, c.head.ensures, c.of-tone.ensures) at c.in_ok-put_element.ensures
