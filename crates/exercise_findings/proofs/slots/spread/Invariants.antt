use Rattle.std.proofs.Common.{ℕ, ◌<◌}
use Rattle.exercise_findings.specs.Slots.{HasEntry, IsReached, HasSlot}
use Rattle.exercise_findings.proofs.slots.spread.Given as goal

-- What stands in so many slots was put into the others, and nothing else.
abbrev pub invariant-loop-place : goal.invariant-loop-place
invariant-loop-place l = record {
  kept : (i : ℕ) → i < l.place → (h e : ℕ) → HasEntry l.from i h e → IsReached l.to h e;
  only : (e : ℕ) → HasSlot l.to e → HasSlot l.from e;
}
