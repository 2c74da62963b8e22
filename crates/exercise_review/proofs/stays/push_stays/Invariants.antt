use Rattle.std.proofs.Common.{◌≡◌, ◌≤◌, ◌++◌, length}
use Rattle.exercise_review.specs.Room.{lists_below}
use Rattle.exercise_review.specs.Stay.{stays_of}
use Rattle.exercise_review.proofs.stays.push_stays.Given as goal

-- Those of the stations so far stand behind what was there.
abbrev pub invariant-loop-station : goal.invariant-loop-station
invariant-loop-station g l = record {
  added : l.stays.items ≡ l.initial.stays.items ++ lists_below (stays_of l.findings) l.station;
  room : length l.stays.items ≤ l.most;
}
