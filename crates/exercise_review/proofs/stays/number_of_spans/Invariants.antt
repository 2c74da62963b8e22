use Rattle.std.proofs.Common.{◌≡◌, ◌≤◌, ◌+◌, length}
use Rattle.exercise_review.specs.Room.{lists_below}
use Rattle.exercise_review.specs.Stay.{stays_of}
use Rattle.exercise_review.proofs.stays.number_of_spans.Given as goal

-- Those of the stations so far are counted.
abbrev pub invariant-loop-station : goal.invariant-loop-station
invariant-loop-station g l = record {
  counted : l.count ≡ 0 + length (lists_below (stays_of l.findings) l.station);
  room : l.count ≤ l.most;
}
