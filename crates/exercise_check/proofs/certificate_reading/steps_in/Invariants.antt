use Rattle.std.proofs.Common.{◌≡◌, ◌-◌, true, length}
use Rattle.std.specs.List.{list_all}
use Rattle.byte_files.proofs.Offered.{SoFar}
use Rattle.exercise_check.specs.Certificate.{is_step, steps_at}
use Rattle.exercise_check.proofs.certificate_reading.steps_in.Given as goal

abbrev pub invariant-loop : goal.invariant-loop
invariant-loop l = record {
  read : SoFar l.fn.text l.text l.steps.items (steps_at (l.count - l.counter)) (steps_at l.count);
  each : list_all is_step l.steps.items ≡ true;
  count : length l.steps.items ≡ l.counter;
}
