use Rattle.std.proofs.Common.{◌≡◌, ◌+◌, ◌-◌, ℕ, length, drop}
use Rattle.std.specs.Prelude.{slice_index_or}
use Rattle.dis_records.specs.declared.entity_state.EntityState.TheVariants.{Absent}
use Rattle.exercise_model.specs.Station.{listed_state}
use Rattle.exercise_review.proofs.course.starts_of.Given as goal

-- The states are those of the last entities of the list, so many as are done.
abbrev pub invariant-loop-done : goal.invariant-loop-done
invariant-loop-done l = record {
  count : length l.starts.items ≡ l.last + 1;
  each : (e : ℕ) → slice_index_or l.starts.items e Absent ≡ listed_state (drop (length l.opening - l.done) l.opening) e;
}
