use Rattle.std.proofs.Common.{◌≡◌, ℕ}
use Rattle.std.specs.Prelude.{vec_len, slice_get}
use Rattle.exercise_findings.specs.States.{IsKept}
use Rattle.exercise_findings.proofs.states.put_at.Given as goal

-- The page has so many places, and those that are new have the filler.
abbrev pub invariant-loop-next : goal.invariant-loop-next
invariant-loop-next l = record {
  count : vec_len l.page ≡ l._next;
  kept : (i : ℕ) → IsKept l.filler (slice_get l.fn.page.items i) (slice_get l.page.items i);
}
