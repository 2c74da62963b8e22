-- The line was had, the station stands there as it was set up, and was played; or one of these was not.
use Rattle.std.proofs.Common.{[], ◌∷◌, refl, inl, inr}
use Rattle.std.specs.Prelude.{Ok, Err}
use Rattle.std.specs.IoError.{error_kind}
use Rattle.std.proofs.KnownBytes.{Keeps-refl}
use Rattle.std.proofs.lemmas.List.Elements.{All-cons}
use Rattle.siman_outside.specs.Outside.{Binds, WasHeld}
use Rattle.siman_outside.proofs.Offered.{adds_then, all_one}
use Rattle.siman_exercise_commands.proofs.Stood.{stood_ready}
use Rattle.siman_exercise_commands.proofs.station.open_and_play.Goals as goal

pub greet_and_create-requires-clause-ready : goal.greet_and_create-requires-clause-ready
greet_and_create-requires-clause-ready g c =
    let had = c.in-Ok-attach_station in stood_ready c.args.set_up had.ready c.requires.set_up had.ensures.head had.ensures.log had.ensures.station

pub returns-in-Ok-attach_station : goal.returns-in-Ok-attach_station
returns-in-Ok-attach_station g c =
    let bound = Binds c.args.placed.bind c.args.placed.peers.items c.args.placed.listening (Ok tt) in
    let had = c.in-Ok-attach_station in
    let rest = c.greet_and_create.ensures in (
      bound ∷ rest.0,
      adds_then _ _ _ (bound ∷ []) rest.0 (rw c.deref.ensures.value at c.in-Ok.ensures.done) rest.1,
      (λ holds. All-cons (WasHeld holds) bound rest.0 tt (rest.2 holds)),
      (refl, refl, refl, inr (had.ready, had.ensures.head, had.ensures.log, had.ensures.station, had.ensures.address, had.ensures.stations, had.ensures.source, rest.3)),
    )

pub returns-in-Err-attach_station : goal.returns-in-Err-attach_station
returns-in-Err-attach_station g c =
    let bound = Binds c.args.placed.bind c.args.placed.peers.items c.args.placed.listening (Ok tt) in (
      bound ∷ [],
      rw c.deref.ensures.value at c.in-Ok.ensures.done,
      (λ holds. all_one (WasHeld holds) bound tt),
      (refl, refl, refl, inl (refl, refl, Keeps-refl (g.W.Write.contents c.args.out.now), Keeps-refl (g.E.Write.contents c.args.errors.now))),
    )

pub returns-in-Err : goal.returns-in-Err
returns-in-Err g c =
    let bound = Binds c.args.placed.bind c.args.placed.peers.items c.args.placed.listening (Err (error_kind c.in-Err.error)) in (
      bound ∷ [],
      rw c.deref.ensures.value at c.in-Err.ensures.done,
      (λ holds. all_one (WasHeld holds) bound tt),
      (
        refl,
        refl,
        refl,
        (c.of_error.result, c.of_error.ensures, (refl, refl, Keeps-refl (g.W.Write.contents c.args.out.now), Keeps-refl (g.E.Write.contents c.args.errors.now))),
      ),
    )
