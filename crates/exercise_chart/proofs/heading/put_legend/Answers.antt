use Rattle.exercise_chart.specs.Heading.{legend_text}
use Rattle.exercise_chart.proofs.heading.put_legend.Goals as goal

pub returns : goal.returns
unfolding legend_text
returns c = c.in_ok-push_str.ensures.bytes
