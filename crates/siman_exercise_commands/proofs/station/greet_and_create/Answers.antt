-- The session was greeted, and its file created; or it was not, and nothing was done.
use Rattle.std.proofs.Common.{[], refl, ap, inl, inr}
use Rattle.std.specs.Prelude.{Err}
use Rattle.std.proofs.KnownBytes.{Keeps-refl}
use Rattle.std.proofs.lemmas.List.Elements.{All-nil}
use Rattle.siman_outside.specs.Outside.{WasHeld}
use Rattle.siman_outside.proofs.Offered.{adds_none}
use Rattle.siman_exercise_commands.proofs.station.greet_and_create.Goals as goal

pub returns-in-Ok : goal.returns-in-Ok
returns-in-Ok g c =
    let greeted = c.in-Ok.ensures in
    let rest = c.create_played.ensures in (rest.0, rest.1, rest.2, (greeted.0, inr (g.W.Write.contents c.greet.new.out, greeted.1, rest.3)))

pub returns-in-Err : goal.returns-in-Err
returns-in-Err g c =
    let greeted = c.in-Err.ensures in (
      [],
      adds_none _,
      (λ holds. All-nil (WasHeld holds)),
      (greeted.0, inl (c.in-Err.fault, greeted.1, refl, ap Err c.of_print.ensures, Keeps-refl (g.E.Write.contents c.args.errors.now))),
    )
