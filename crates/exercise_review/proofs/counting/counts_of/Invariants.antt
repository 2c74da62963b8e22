use Rattle.std.proofs.Common.{◌≡◌, ℕ, ◌<◌, length}
use Rattle.std.specs.Prelude.{slice_index_or}
use Rattle.exercise_review.specs.Counted.{count_at}
use Rattle.exercise_review.proofs.counting.counts_of.Given as goal

-- As many were counted at each place as fall to it so far.
abbrev pub invariant-loop-number : goal.invariant-loop-number
invariant-loop-number g l = record {
  count : length l.counts.items ≡ l.places;
  each : (k : ℕ) → k < l.places → slice_index_or l.counts.items k 0 ≡ count_at (g.P.Placing.places l.placing) k l.number;
}
