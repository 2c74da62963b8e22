-- One file was opened after the other, or one was not.
use Rattle.std.proofs.Common.{◌++◌, List, ap, refl, inl, inr}
use Rattle.std.proofs.lemmas.List.Elements.{All-append}
use Rattle.siman_outside.specs.Opening.{OpensInputs, both, seen_as}
use Rattle.siman_outside.specs.Outside.{Deed, WasHeld}
use Rattle.siman_outside.proofs.Inputs.{at_fault}
use Rattle.siman_outside.proofs.Openings.{adds_then, did_so}
use Rattle.siman_outside.proofs.opening.open_inputs.Goals as goal

pub returns : goal.returns
returns g c =
    let Held = WasHeld (g.O.Outside.holds c.args.outside.now) in
    let first = c.in_ok-first.ensures.did in
    let second = rw c.in_ok-first.ensures.stays at c.in_ok-second.ensures.did in (
      first.0 ++ second.0,
      adds_then _ _ _ first.0 second.0 first.1 second.1,
      All-append Held first.0 second.0 first.2 second.2,
      rw (first.3, second.3) refl,
    )

pub returns-in_err-second : goal.returns-in_err-second
returns-in_err-second g c =
    let Held = WasHeld (g.O.Outside.holds c.args.outside.now) in
    let first = c.in_ok-first.ensures.did in
    let second = rw c.in_ok-first.ensures.stays at c.in_err-second.ensures.did in
    let deeds = first.0 ++ second.0 in (
      deeds,
      adds_then _ _ _ first.0 second.0 first.1 second.1,
      All-append Held first.0 second.0 first.2 second.2,
      at_fault (λ r. OpensInputs c.args.names.0.now c.args.names.1.now c.args.made.now deeds (seen_as (both g.O.Outside.bytes) r)) c.in_err-second.field-0.0 c.from_residual-in_err-second.result
          c.from_residual-in_err-second.ensures.1 (inr (_, second.0, ap (λ (ds : List Deed). ds ++ second.0) first.3, second.3)),
    )

pub returns-in_err-first : goal.returns-in_err-first
returns-in_err-first g c =
    did_so g.O.Outside.deeds g.O.Outside.holds _ _ _ _ (λ deeds opens. at_fault (λ r. OpensInputs c.args.names.0.now c.args.names.1.now c.args.made.now deeds (seen_as (both g.O.Outside.bytes) r)) c.in_err-first.field-0.0
    c.from_residual.result c.from_residual.ensures.1 (inl opens)) c.in_err-first.ensures.did
