use Rattle.exercise_chart.proofs.Shown.{rows_are_steps}
use Rattle.exercise_chart.proofs.Downwards.{arrows_down, arrow_drawn}
use Rattle.exercise_chart.proofs.Barred.{bars_have_states}
use Rattle.exercise_chart.proofs.laws.pictures_are_runs.Goals as goal

pub returns-clause-rows : goal.returns-clause-rows
returns-clause-rows c = λ r steps w chosen blocked good within. rows_are_steps r steps w chosen blocked w.ordered good within

pub returns-clause-arrows : goal.returns-clause-arrows
returns-clause-arrows c = λ r steps w chosen blocked limits good.
    arrows_down r steps w chosen blocked limits good (λ i within. c.links_are_of_the_logs.ensures.once r steps i limits good within)
    (λ k within. c.links_are_of_the_logs.ensures.links r steps k limits good within)

pub returns-clause-drawn : goal.returns-clause-drawn
returns-clause-drawn c = arrow_drawn

pub returns-clause-bars : goal.returns-clause-bars
returns-clause-bars c = λ r steps w chosen blocked limits good.
    bars_have_states r steps w chosen blocked good (λ i within. c.links_are_of_the_logs.ensures.once r steps i limits good within) (c.lives_are_states.ensures r)
