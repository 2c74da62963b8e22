use Rattle.std.proofs.Common.{◌≡◌}
use Rattle.std.specs.Prelude.{is_some}
use Rattle.exercise_model.specs.Place.{first_below}
use Rattle.siman_operator.specs.Clocks.{due_time, earliest_below}
use Rattle.siman_operator.specs.Notes.{due_at}
use Rattle.siman_operator.proofs.clock.order_pace.Given as goal

-- Whether one so far is due, and the earliest time so far.
abbrev pub invariant-loop-place : goal.invariant-loop-place
invariant-loop-place l =
    (l.ticks ≡ is_some (first_below (due_at l.manager l.now) l.place)) × (l.until ≡ earliest_below (due_time l.manager l.wait) l.place)
