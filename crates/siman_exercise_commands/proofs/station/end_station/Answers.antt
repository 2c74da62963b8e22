-- The words say where the station is, and it ended as what came of it says; or one of them does not.
use Rattle.std.proofs.Common.{[], refl, inl, inr}
use Rattle.std.proofs.KnownBytes.{Keeps-refl}
use Rattle.std.proofs.lemmas.List.Elements.{All-nil}
use Rattle.siman_outside.specs.Outside.{WasHeld}
use Rattle.siman_outside.proofs.Offered.{adds_none}
use Rattle.siman_exercise_commands.proofs.station.end_station.Goals as goal

pub returns-in-Err : goal.returns-in-Err
returns-in-Err g c = (
  [],
  adds_none _,
  All-nil (WasHeld (g.O.Outside.holds c.args.outside.now)),
  (
    c.conclude.ensures.begun,
    inl (c.in-Err.fault, c.in-Err.ensures, refl, Keeps-refl (g.W.Write.contents c.args.out.now), c.conclude.ensures.ends, c.conclude.ensures.fault),
  ),
)

pub returns : goal.returns
returns g c =
    let did = c.play_file-played.ensures in
    (did.0, did.1, did.2, (refl, inr (c.in-Ok.placed, c.play_file-played.result, _, c.in-Ok.ensures, did.3, c.end_played.ensures, c.err.ensures.value)))
