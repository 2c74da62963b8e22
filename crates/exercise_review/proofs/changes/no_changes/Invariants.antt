use Rattle.std.proofs.Common.{◌≡◌, ℕ, [], length}
use Rattle.std.specs.Prelude.{IfSome, slice_get}
use Rattle.exercise_review.proofs.changes.no_changes.Given as goal

-- So many stations have none.
abbrev pub invariant-loop-done : goal.invariant-loop-done
invariant-loop-done l = record {
  count : length l.all.items ≡ l._done;
  each : (s : ℕ) → IfSome (slice_get l.all.items s) (λ changes. changes.items ≡ []);
}
