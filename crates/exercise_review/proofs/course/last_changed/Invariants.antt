use Rattle.std.proofs.Common.{◌≡◌, ℕ, ◌<◌, false}
use Rattle.exercise_review.specs.Course.{change_in, is_of}
use Rattle.exercise_review.proofs.course.last_changed.Given as goal

-- None of the changes so far is one of an entity of a greater number.
abbrev pub invariant-loop-place : goal.invariant-loop-place
invariant-loop-place l = (e i : ℕ) → l.last < e → i < l.place → is_of e (change_in l.changes i) ≡ false
