-- Two files were opened, one after the other.
use Rattle.std.proofs.Common.{[], ◌∷◌, ◌++◌, Ok, Err, refl}
use Rattle.std.proofs.KnownBytes.{Keeps-refl}
use Rattle.std.proofs.lemmas.List.Elements.{All-append}
use Rattle.std.specs.IoError.{error_kind}
use Rattle.siman_outside.specs.Outside.{Opens, Reads, WasHeld}
use Rattle.siman_outside.proofs.Openings.{adds_then, all_two}
use Rattle.siman_outside.proofs.saying.say_of_files.Goals as goal

pub returns-in-Ok-open : goal.returns-in-Ok-open
returns-in-Ok-open g c =
    let Held = WasHeld (g.O.Outside.holds c.args.outside.now) in
    let first = Opens c.args.names.0.now (Ok (g.O.Outside.bytes c.in-Ok.opened)) in
    let second = Opens c.args.names.1.now (Ok (g.O.Outside.bytes c.in-Ok-open.second)) in
    let one = Reads (g.O.Outside.bytes c.in-Ok.opened) in
    let two = Reads (g.O.Outside.bytes c.in-Ok-open.second) in
    let held = rw c.in-Ok.ensures.stays at c.in-Ok-open.ensures.held in
    let opened = adds_then _ _ _ (first ∷ []) (second ∷ []) c.in-Ok.ensures.done c.in-Ok-open.ensures.done in
    let read = adds_then _ _ _ (one ∷ []) (two ∷ []) c.read-first.ensures.done c.read-second.ensures.done in
    let said = rw (c.read-first.ensures.same, c.read-second.ensures.same) at c.say_of_certificate.ensures.says in (
      (first ∷ second ∷ []) ++ (one ∷ two ∷ []),
      adds_then _ _ _ (first ∷ second ∷ []) (one ∷ two ∷ []) opened read,
      All-append Held (first ∷ second ∷ []) (one ∷ two ∷ []) (all_two Held first second c.in-Ok.ensures.held held) (all_two Held one two tt tt),
      (refl, refl, refl, refl, said),
    )

pub returns-in-Err-open : goal.returns-in-Err-open
returns-in-Err-open g c =
    let first = Opens c.args.names.0.now (Ok (g.O.Outside.bytes c.in-Ok.opened)) in
    let second = Opens c.args.names.1.now (Err (error_kind c.in-Err-open.error)) in
    let held = rw c.in-Ok.ensures.stays at c.in-Err-open.ensures.held in (
      first ∷ second ∷ [],
      adds_then _ _ _ (first ∷ []) (second ∷ []) c.in-Ok.ensures.done c.in-Err-open.ensures.done,
      all_two (WasHeld (g.O.Outside.holds c.args.outside.now)) first second c.in-Ok.ensures.held held,
      (refl, refl, (Keeps-refl (g.W.Write.contents c.args.out.now), (c.open_fault-in-Err-open.result, c.open_fault-in-Err-open.ensures, refl))),
    )
