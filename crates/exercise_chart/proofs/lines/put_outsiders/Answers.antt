use Rattle.exercise_chart.specs.Lines.{outside_text, outsiders_text}
use Rattle.exercise_chart.proofs.Behind.{all_between}
use Rattle.exercise_chart.proofs.lines.put_outsiders.Goals as goal

pub returns : goal.returns
unfolding outsiders_text
returns c =
    all_between (outside_text c.args.frame.now) c.args.outside.now c.loop-outsider.outsider-index _ _ _ _ _ _ c.loop-outsider-test.false c.in_ok-push_str.ensures.bytes c.loop-outsider.invariant
    c.in_ok-push_str-2.ensures.bytes
