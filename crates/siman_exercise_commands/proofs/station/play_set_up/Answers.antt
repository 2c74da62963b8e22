-- No file stands under the name, and it went on.
use Rattle.std.proofs.Common.{[], ◌∷◌, false, refl}
use Rattle.std.proofs.lemmas.List.Elements.{All-cons}
use Rattle.siman_outside.specs.Outside.{LooksFor, WasHeld}
use Rattle.siman_outside.proofs.Offered.{adds_then}
use Rattle.siman_exercise_commands.proofs.station.play_set_up.Goals as goal

pub returns : goal.returns
returns g c =
    let looked = LooksFor c.args.placed.name.now false in
    let rest = c.open_and_play.ensures in (
      looked ∷ rest.0,
      adds_then _ _ _ (looked ∷ []) rest.0 c.if-is_taken.ensures.done rest.1,
      (λ holds. All-cons (WasHeld holds) looked rest.0 tt (rest.2 holds)),
      (refl, rest.3),
    )
