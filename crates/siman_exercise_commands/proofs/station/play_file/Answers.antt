-- The script was opened and read, and its station played.
use Rattle.std.proofs.Common.{[], ◌∷◌, refl, inl, inr}
use Rattle.std.specs.Prelude.{Ok, Err}
use Rattle.std.specs.IoError.{error_kind}
use Rattle.std.proofs.KnownBytes.{Keeps-refl}
use Rattle.std.proofs.lemmas.List.Elements.{All-append}
use Rattle.siman_outside.specs.Outside.{Opens, Reads, WasHeld}
use Rattle.siman_outside.proofs.Offered.{adds_then, all_one, all_two}
use Rattle.siman_exercise_commands.proofs.Stood.{of_text}
use Rattle.siman_exercise_commands.proofs.station.play_file.Goals as goal

pub play_set_up-requires-clause-set_up : goal.play_set_up-requires-clause-set_up
play_set_up-requires-clause-set_up g c = of_text _ _ _ c.in-Ok-set_up_file.set_up c.in-Ok-set_up_file.ensures

pub returns-in-Ok-set_up_file : goal.returns-in-Ok-set_up_file
returns-in-Ok-set_up_file g c =
    let Held = WasHeld (g.O.Outside.holds c.args.outside.now) in
    let opens = Opens c.args.words.now.setup.now (Ok (g.O.Outside.bytes c.in-Ok.opened)) in
    let reads = Reads (g.O.Outside.bytes c.in-Ok.opened) in
    let rest = c.play_set_up.ensures in
    let read = rw c.read.ensures.same at c.in-Ok-set_up_file.ensures in (
      opens ∷ reads ∷ rest.0,
      adds_then _ _ _ (opens ∷ []) (reads ∷ rest.0) c.in-Ok.ensures.done (adds_then _ _ _ (reads ∷ []) rest.0 c.read.ensures.done rest.1),
      All-append Held (opens ∷ reads ∷ []) rest.0 (all_two Held opens reads c.in-Ok.ensures.held tt) (rest.2 (g.O.Outside.holds c.args.outside.now)),
      (refl, refl, inr (c.in-Ok-set_up_file.set_up, read, rw c.requires.name at rest.3)),
    )

pub returns : goal.returns
returns g c =
    let Held = WasHeld (g.O.Outside.holds c.args.outside.now) in
    let opens = Opens c.args.words.now.setup.now (Ok (g.O.Outside.bytes c.in-Ok.opened)) in
    let reads = Reads (g.O.Outside.bytes c.in-Ok.opened) in
    let none = rw c.read.ensures.same at c.in-Err-set_up_file.ensures in (
      opens ∷ reads ∷ [],
      adds_then _ _ _ (opens ∷ []) (reads ∷ []) c.in-Ok.ensures.done c.read.ensures.done,
      all_two Held opens reads c.in-Ok.ensures.held tt,
      (refl, refl, inl (c.in-Err-set_up_file.fault, none, (refl, refl, Keeps-refl (g.W.Write.contents c.args.out.now), Keeps-refl (g.E.Write.contents c.args.errors.now)))),
    )

pub returns-in-Err : goal.returns-in-Err
returns-in-Err g c =
    let opens = Opens c.args.words.now.setup.now (Err (error_kind c.in-Err.error)) in (
      opens ∷ [],
      c.in-Err.ensures.done,
      all_one (WasHeld (g.O.Outside.holds c.args.outside.now)) opens c.in-Err.ensures.held,
      (refl, (c.open_fault.result, c.open_fault.ensures, (refl, refl, Keeps-refl (g.W.Write.contents c.args.out.now), Keeps-refl (g.E.Write.contents c.args.errors.now)))),
    )
