use Rattle.exercise_chart.proofs.bars.put_stretch.Goals as goal

-- Each place is where the frame has it.
pub returns : goal.returns
returns c =
    rw (
      c.saturating_sub-height.ensures,
      c.until_y.ensures,
      c.since_y-top.ensures.y,
      c.slot_x-left.ensures.x,
      c.state_colour.ensures,
      c.change_shown.ensures,
      c.change_shown-2.ensures,
    )
    at c.in_ok-put_element.ensures
