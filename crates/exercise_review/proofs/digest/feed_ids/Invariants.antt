use Rattle.std.proofs.Common.{◌≡◌}
use Rattle.std.specs.Prelude.{fold}
use Rattle.exercise_review.specs.Digest.{id_fed}
use Rattle.exercise_review.proofs.digest.feed_ids.Given as goal

-- What is left makes of what was fed what all makes.
abbrev pub invariant-loop-id : goal.invariant-loop-id
invariant-loop-id l = fold id_fed l.initial.hasher l.fn.ids ≡ fold id_fed l.hasher l.id-iterator
