use Rattle.exercise_chart.specs.Lines.{arrow_text, arrows_text}
use Rattle.exercise_chart.proofs.Behind.{all_between}
use Rattle.exercise_chart.proofs.lines.put_arrows.Goals as goal

pub returns : goal.returns
unfolding arrows_text
returns c =
    all_between (arrow_text c.args.frame.now) c.args.arrows.now c.loop-arrow.arrow-index _ _ _ _ _ _ c.loop-arrow-test.false c.in_ok-push_str.ensures.bytes c.loop-arrow.invariant
    c.in_ok-push_str-2.ensures.bytes
