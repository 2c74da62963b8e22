use Rattle.exercise_review.specs.Life.{life_in}
use Rattle.exercise_review.proofs.Spans.{lives_are}
use Rattle.exercise_review.proofs.life.station_life.Goals as goal

pub returns : goal.returns
returns g c =
    lives_are c.args.findings.now c.args.station c.args.entity c.new.result.items c.end_stretch.new.life.ended.items c.state_before.result
    (life_in c.live_by.new.life) c.args.changes.now c.requires.entity c.new.ensures.items c.state_before.ensures c.requires.changes c.in_ok-live_by.ensures
    c.in_ok-end_stretch.ensures.ended
