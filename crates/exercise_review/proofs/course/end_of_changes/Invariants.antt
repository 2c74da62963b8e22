use Rattle.std.proofs.Common.{◌≡◌, ℕ, ◌-◌, ◌<◌, ◌≤◌, true, false}
use Rattle.exercise_review.specs.Course.{change_in, is_change_of_all_in}
use Rattle.exercise_review.proofs.course.end_of_changes.Given as goal

-- None of the changes so far moves them past this place.
abbrev pub invariant-loop-place : goal.invariant-loop-place
invariant-loop-place l = record {
  within : l.last ≤ l.place;
  none : (i : ℕ) → l.last ≤ i → i < l.place → is_change_of_all_in l.state (change_in l.changes i) ≡ false;
  moves : 0 < l.last → is_change_of_all_in l.state (change_in l.changes (l.last - 1)) ≡ true;
}
