use Rattle.std.proofs.Common.{◌≡◌, ◌≤◌, ◌+◌, length}
use Rattle.exercise_review.specs.Room.{lists_below}
use Rattle.exercise_review.specs.Stay.{stays_of_next}
use Rattle.exercise_review.proofs.stays.count_station.Given as goal

-- Those of the entities so far are counted with those before.
abbrev pub invariant-loop-below : goal.invariant-loop-below
invariant-loop-below g l = record {
  counted : l.count ≡ l.initial.count + length (lists_below (stays_of_next l.findings l.station) l.below);
  room : l.count ≤ l.most;
}
