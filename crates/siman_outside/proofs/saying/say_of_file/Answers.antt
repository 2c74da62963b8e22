-- The file was opened, and then read.
use Rattle.std.proofs.Common.{refl}
use Rattle.siman_outside.specs.Outside.{WasHeld}
use Rattle.siman_outside.proofs.Openings.{adds_then, all_two}
use Rattle.siman_outside.proofs.saying.say_of_file.Goals as goal

pub returns-in-Ok : goal.returns-in-Ok
returns-in-Ok g c = (
  _,
  adds_then _ _ _ _ _ c.in-Ok.ensures.done c.read-file.ensures.done,
  all_two (WasHeld (g.O.Outside.holds c.args.outside.now)) _ _ c.in-Ok.ensures.held tt,
  (refl, refl, rw c.read-file.ensures.same at c.say_of_recording.ensures.says),
)
