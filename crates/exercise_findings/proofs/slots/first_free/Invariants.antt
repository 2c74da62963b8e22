use Rattle.std.proofs.Common.{◌≡◌, ◌<◌, length}
use Rattle.exercise_findings.specs.Slots.{slot_on, AreTaken}
use Rattle.exercise_findings.proofs.slots.first_free.Given as goal

-- So many slots from the home of the hash on are taken.
abbrev pub invariant-loop-step : goal.invariant-loop-step
invariant-loop-step l = record {
  at : l.place ≡ slot_on (length l.slots) l.hash l._step;
  within : l.place < length l.slots;
  taken : AreTaken l.slots l.hash l._step;
}
