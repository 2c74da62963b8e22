use Rattle.std.proofs.Common.{◌≡◌, ◌≤◌, ◌++◌, length}
use Rattle.exercise_review.specs.Room.{lists_below}
use Rattle.exercise_review.specs.Stay.{stays_of_next}
use Rattle.exercise_review.proofs.stays.push_station.Given as goal

-- Those of the entities so far stand behind what was there.
abbrev pub invariant-loop-below : goal.invariant-loop-below
invariant-loop-below g l = record {
  added : l.stays.items ≡ l.initial.stays.items ++ lists_below (stays_of_next l.findings l.station) l.below;
  room : length l.stays.items ≤ l.most;
}
