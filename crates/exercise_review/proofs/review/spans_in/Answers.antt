use Rattle.exercise_review.specs.Span.{all_spans}
use Rattle.exercise_review.proofs.Rows.{one_taken}
use Rattle.exercise_review.proofs.review.spans_in.Goals as goal

pub loop-place-preserved : goal.loop-place-preserved
loop-place-preserved g c =
    one_taken (all_spans c.args.reviewed.now) c.loop-place.spans.items c.push.new.self.items c.loop-place.place c.span.result c.span.ensures c.loop-place.invariant c.in_ok-push.ensures.items
