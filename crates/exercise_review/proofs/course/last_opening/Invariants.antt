use Rattle.std.proofs.Common.{ℕ, ◌<◌, ◌≤◌}
use Rattle.std.specs.Prelude.{slice_index_or}
use Rattle.dis_records.specs.declared.entity_state.EntityState.TheVariants.{Absent}
use Rattle.exercise_review.proofs.course.last_opening.Given as goal

-- None of the numbers so far is greater.
abbrev pub invariant-loop-place : goal.invariant-loop-place
invariant-loop-place l = (i : ℕ) → i < l.place → (slice_index_or l.opening i (0, Absent)).0 ≤ l.last
