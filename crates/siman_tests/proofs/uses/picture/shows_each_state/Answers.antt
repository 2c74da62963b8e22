use Rattle.std.proofs.Common.{◌≡◌, ℕ, ◌<◌, length, true}
use Rattle.std.proofs.lemmas.List.Elements.{All-weaker}
use Rattle.exercise_chart.specs.declared.bar.Bar.{Bar}
use Rattle.exercise_chart.specs.Marks.{marks_of}
use Rattle.exercise_chart.specs.Picture.{bar_covers, state_at_step, HasState}
use Rattle.siman_tests.proofs.uses.picture.shows_each_state.Goals as goal

pub returns : goal.returns
returns c = λ r steps w chosen blocked limits good.
    All-weaker (HasState r steps)
    (λ (b : Bar). (k : ℕ) → k < length steps → bar_covers b k ≡ true → state_at_step r steps b.station b.entity.entity k ≡ b.state)
    (λ b has. has.after) (marks_of r steps w chosen blocked).bars (c.pictures_are_runs.ensures.bars r steps w chosen blocked limits good)
