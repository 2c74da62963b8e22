use Rattle.std.proofs.Common.{◌≡◌, ℕ}
use Rattle.std.specs.Prelude.{vec_len}
use Rattle.exercise_findings.specs.States.{held_at}
use Rattle.exercise_findings.proofs.states.reach_page.Given as goal

-- There are so many pages, and those that are new have nothing.
abbrev pub invariant-loop-next : goal.invariant-loop-next
invariant-loop-next l = record {
  count : vec_len l.pages ≡ l._next;
  held : (e : ℕ) → held_at l.pages.items e ≡ held_at l.fn.pages.items e;
}
