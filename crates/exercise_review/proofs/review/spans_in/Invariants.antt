use Rattle.std.proofs.Common.{◌≡◌, take}
use Rattle.exercise_review.specs.Span.{all_spans}
use Rattle.exercise_review.proofs.review.spans_in.Given as goal

-- The lines so far.
abbrev pub invariant-loop-place : goal.invariant-loop-place
invariant-loop-place g l = l.spans.items ≡ take l.place (all_spans l.reviewed)
