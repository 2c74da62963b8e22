use Rattle.std.proofs.Common.{◌≡◌, ◌-◌, length}
use Rattle.exercise_audit.specs.Search.{IsSearch}
use Rattle.exercise_audit.proofs.search.take_others.Given as goal

abbrev pub invariant-loop-turns : goal.invariant-loop-turns
invariant-loop-turns g l = record {
  recording : l.course.recording ≡ l.fn.course.recording;
  search : IsSearch l.course l.waiting l.turns;
}

abbrev pub decreases-loop-turns : goal.decreases-loop-turns
decreases-loop-turns g l = length l.fn.course.recording.entries - length l.course.steps
