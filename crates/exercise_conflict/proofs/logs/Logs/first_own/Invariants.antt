use Rattle.std.proofs.Common.{◌≡◌, ◌≤◌, ◌-◌, None}
use Rattle.exercise_model.specs.Place.{first_below}
use Rattle.exercise_conflict.proofs.logs.Logs.first_own.Given as goal

-- None before the place that the walk came to passes.
abbrev pub invariant-loop-next : goal.invariant-loop-next
invariant-loop-next g l = record {
  within : l.next ≤ l.end;
  none : first_below (g.Q.NumberTest.test l.question) l.next ≡ None;
}

abbrev pub decreases-loop-next : goal.decreases-loop-next
decreases-loop-next g l = l.end - l.next
