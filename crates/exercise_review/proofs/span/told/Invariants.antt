use Rattle.std.proofs.Common.{◌≡◌, map, take}
use Rattle.exercise_review.specs.Stay.{span_at}
use Rattle.exercise_review.proofs.span.told.Given as goal

-- Those of the stays so far are told.
abbrev pub invariant-loop-stay : goal.invariant-loop-stay
invariant-loop-stay g l = l.spans.items ≡ map (span_at l.findings) (take l.stay-index l.stays)
