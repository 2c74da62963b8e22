use Rattle.exercise_chart.specs.Heading.{signs_text}
use Rattle.exercise_chart.proofs.heading.put_signs.Goals as goal

pub returns : goal.returns
unfolding signs_text
returns c = c.in_ok-push_str.ensures.bytes
