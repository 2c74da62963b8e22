use Rattle.exercise_review.specs.Life.{life_in}
use Rattle.exercise_review.proofs.Spans.{lived_more}
use Rattle.exercise_review.proofs.life.live_by.Goals as goal

pub loop-made-preserved : goal.loop-made-preserved
loop-made-preserved c =
    lived_more c.args.entity (life_in c.args.life.now) (life_in c.loop-made.life) (life_in c.live_on.new.life) c.args.changes.now c.loop-made.made-index _
    c.changed-state.result c.loop-made-test.true c.loop-made.invariant c.changed-state.ensures c.in_ok-live_on.ensures
