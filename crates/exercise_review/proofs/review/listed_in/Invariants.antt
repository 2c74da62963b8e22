use Rattle.std.proofs.Common.{◌≡◌, take}
use Rattle.exercise_review.specs.Told.{reviewed_orders}
use Rattle.exercise_review.proofs.review.listed_in.Given as goal

-- The lines so far.
abbrev pub invariant-loop-place : goal.invariant-loop-place
invariant-loop-place g l = l.told.items ≡ take l.place (reviewed_orders l.reviewed)
