use Rattle.std.proofs.Common.{◌-◌, ◌≤◌, length, take}
use Rattle.exercise_review.specs.Life.{LifeSoFar}
use Rattle.exercise_review.specs.Span.{life_by_changes}
use Rattle.exercise_review.specs.Course.{is_of, IsNextIn, start_in}
use Rattle.exercise_review.proofs.Staying.{AreKept}
use Rattle.exercise_review.proofs.living.push_life.Given as goal

-- The stays of the life after the changes before a place, to which it stayed as it was; and the next change of the entity alone.
abbrev pub invariant-loop-place : goal.invariant-loop-place
invariant-loop-place l =
    let life : LifeSoFar = life_by_changes l.entity (start_in l.course l.entity) (take l.place l.course.changes.now) in
    record {
      within : l.place ≤ length l.course.changes.now;
      own : IsNextIn (is_of l.entity) l.course.changes.now l.place l.own;
      kept : AreKept l.station l.entity l.initial.stays.items life l.stays.items l.stay;
      room : length l.stays.items ≤ l.most;
    }

abbrev pub decreases-loop-place : goal.decreases-loop-place
decreases-loop-place l = length l.course.changes.now - l.place
