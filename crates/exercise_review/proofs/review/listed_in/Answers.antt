use Rattle.exercise_review.specs.Told.{reviewed_orders}
use Rattle.exercise_review.proofs.Rows.{one_taken}
use Rattle.exercise_review.proofs.review.listed_in.Goals as goal

pub loop-place-preserved : goal.loop-place-preserved
loop-place-preserved g c =
    one_taken (reviewed_orders c.args.reviewed.now) c.loop-place.told.items c.push.new.self.items c.loop-place.place c.told.result c.told.ensures c.loop-place.invariant c.in_ok-push.ensures.items
