use Rattle.std.proofs.Common.{◌≡◌, ℕ, None, length}
use Rattle.std.specs.Prelude.{slice_index_or}
use Rattle.exercise_chart.proofs.taken.none_taken.Given as goal

-- None of the entries so far is taken.
abbrev pub invariant-loop-entry : goal.invariant-loop-entry
invariant-loop-entry l = record {
  count : length l.taken.items ≡ l._entry;
  each : (i : ℕ) → slice_index_or l.taken.items i None ≡ None;
}
