use Rattle.exercise_chart.proofs.lines.put_loss_line.Goals as goal

-- Each place is where the frame has it, and the address is that of the station.
pub returns : goal.returns
returns g c =
    rw (
      c.column_x.ensures.x,
      c.step_y-y.ensures.y,
      c.lost_x.ensures,
      c.colour.ensures,
      c.of-tone.ensures,
      c.address-address.ensures.address,
      c.station.ensures.station,
      c.from.ensures,
    )
    at c.in_ok-put_element.ensures
