use Rattle.std.proofs.Common.{◌<◌}
use Rattle.std.proofs.lemmas.List.Elements.{All-weaker}
use Rattle.exercise_chart.specs.declared.arrow.Arrow.{Arrow}
use Rattle.exercise_chart.specs.Marks.{marks_of}
use Rattle.exercise_chart.specs.Picture.{LeadsDown}
use Rattle.siman_tests.proofs.uses.picture.points_no_arrow_upwards.Goals as goal

pub returns : goal.returns
returns c = λ r steps w chosen blocked limits good.
    All-weaker (LeadsDown r steps w) (λ (a : Arrow). a.from.step < a.to.step) (λ a down. down.down) (marks_of r steps w chosen blocked).arrows
    (c.pictures_are_runs.ensures.arrows r steps w chosen blocked limits good)
