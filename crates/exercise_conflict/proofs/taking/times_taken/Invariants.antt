use Rattle.std.proofs.Common.{◌≡◌, ℕ, ◌<◌, length, take}
use Rattle.std.specs.Prelude.{slice_index_or}
use Rattle.exercise_conflict.specs.StepClash.{times_taken}
use Rattle.exercise_conflict.proofs.taking.times_taken.Given as goal

-- The steps so far were counted.
abbrev pub invariant-loop-step : goal.invariant-loop-step
invariant-loop-step l = record {
  count : length l.times.items ≡ l.entries;
  each : (i : ℕ) → i < l.entries → slice_index_or l.times.items i 0 ≡ times_taken (take l.step-index l.steps) i;
}
