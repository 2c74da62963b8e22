use Rattle.std.proofs.Common.{◌≡◌}
use Rattle.exercise_review.specs.Room.{lists_below}
use Rattle.exercise_review.specs.Span.{made_at}
use Rattle.exercise_review.proofs.changes.changes_made.Given as goal

-- The changes of the entries so far.
abbrev pub invariant-loop-entry : goal.invariant-loop-entry
invariant-loop-entry g l = l.changes.items ≡ lists_below (made_at l.findings l.station) l.entry
