use Rattle.std.proofs.Common.{◌≡◌, map}
use Rattle.std.specs.Prelude.{fold}
use Rattle.dis_records.specs.Datum.{canonical}
use Rattle.exercise_review.specs.Digest.{variable_fed}
use Rattle.exercise_review.proofs.digest.feed_variable.Given as goal

-- What is left makes of what was fed what all makes.
abbrev pub invariant-loop-datum : goal.invariant-loop-datum
invariant-loop-datum l = fold variable_fed l.initial.hasher (map canonical l.fn.datums) ≡ fold variable_fed l.hasher (map canonical l.datum-iterator)
