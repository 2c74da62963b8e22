use Rattle.std.proofs.Common.{◌≡◌, ◌-◌, length}
use Rattle.exercise_review.specs.Course.{is_change_of_all_in, AreNextIn}
use Rattle.exercise_review.proofs.course.next_changes.Given as goal

-- What comes next is written for the last places, so many as are done.
abbrev pub invariant-loop-done : goal.invariant-loop-done
invariant-loop-done l = record {
  count : length l.places.items ≡ l.count;
  next : AreNextIn (is_change_of_all_in l.state) l.changes (l.count - l.done) l.places.items;
}
