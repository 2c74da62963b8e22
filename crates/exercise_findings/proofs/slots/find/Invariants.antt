use Rattle.std.proofs.Common.{◌≡◌, ◌<◌, length}
use Rattle.exercise_findings.specs.Slots.{slot_on}
use Rattle.exercise_findings.proofs.Standing.{PassResult}
use Rattle.exercise_findings.proofs.slots.find.Given as goal

-- So many slots from the home of the hash on do not have the entry.
abbrev pub invariant-loop-step : goal.invariant-loop-step
invariant-loop-step g l = record {
  at : l.place ≡ slot_on (length l.slots.slots) l.hash l._step;
  within : l.place < length l.slots.slots;
  passed : PassResult l.slots.slots l.hash (g.S.Sought.is_sought l.sought) l._step;
}
