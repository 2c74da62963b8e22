-- A file was made and written, and then saved or discarded.
use Rattle.std.proofs.Common.{refl}
use Rattle.siman_outside.specs.Outside.{WasHeld}
use Rattle.siman_outside.proofs.Openings.{adds_then, all_two, nothing_held}
use Rattle.siman_outside.proofs.making.make_file.Goals as goal

pub returns-in-Ok : goal.returns-in-Ok
returns-in-Ok g c =
    let last = c.save_or_discard.ensures in (
      _,
      adds_then _ _ _ _ _ c.in-Ok.ensures.done last.1,
      (λ holds. all_two (WasHeld holds) _ _ c.in-Ok.ensures.fresh (nothing_held holds _ _ _ _ last.2)),
      (refl, refl, (_, c.put-put.result, c.put-put.ensures.puts, last.2)),
    )
