-- The text so far is that of the steps so far, of eight bytes each.
use Rattle.std.proofs.Common.{◌≡◌, ◌*◌, take}
use Rattle.std.specs.List.{flat_map}
use Rattle.arrayvec.specs.ArrayVec.{array_vec_len}
use Rattle.exercise_check.specs.Certificate.{step_text}
use Rattle.exercise_check.proofs.certificate_text.block_text.Given as goal

abbrev pub invariant-loop-step : goal.invariant-loop-step
invariant-loop-step l = (l.text.items ≡ flat_map step_text (take l.step-index l.steps)) × (array_vec_len l.text ≡ 8 * l.step-index)
