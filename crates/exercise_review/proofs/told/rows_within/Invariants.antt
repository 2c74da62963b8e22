use Rattle.std.proofs.Common.{◌≤◌, length}
use Rattle.exercise_review.specs.Tally.{IsReviewBelow}
use Rattle.exercise_review.proofs.told.rows_within.Given as goal

-- What was told of the entries so far, for which there was room.
abbrev pub invariant-loop-entry : goal.invariant-loop-entry
invariant-loop-entry g l = record {
  told : IsReviewBelow l.findings l.entry l.told;
  room : length l.told.rows.items ≤ l.most;
}
