use Rattle.std.proofs.Common.{◌≡◌}
use Rattle.std.specs.Prelude.{fold}
use Rattle.exercise_review.specs.Digest.{fixed_fed}
use Rattle.exercise_review.proofs.digest.feed_fixed.Given as goal

-- What is left makes of what was fed what all makes.
abbrev pub invariant-loop-datum : goal.invariant-loop-datum
invariant-loop-datum l = fold fixed_fed l.initial.hasher l.fn.datums ≡ fold fixed_fed l.hasher l.datum-iterator
