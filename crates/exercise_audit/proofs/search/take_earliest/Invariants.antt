use Rattle.std.proofs.Common.{◌≡◌}
use Rattle.exercise_audit.specs.Turns.{turn_count}
use Rattle.exercise_audit.specs.Search.{IsSearch}
use Rattle.exercise_audit.proofs.search.take_earliest.Given as goal

-- So far no station could go on.
abbrev pub invariant-loop-turn : goal.invariant-loop-turn
invariant-loop-turn g l = record {
  course : l.course ≡ l.fn.course;
  search : IsSearch l.course l.waiting l.turns;
}

abbrev pub decreases-loop-turn : goal.decreases-loop-turn
decreases-loop-turn g l = turn_count l.turns
