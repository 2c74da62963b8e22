-- One piece after the other.
use Rattle.std.proofs.Common.{◌≡◌, ◌+◌, [], ◌∷◌, ◌++◌, map, drop, inl, inr, refl, ap, ◌∙◌, sym, append-nil}
use Rattle.std.specs.List.{flat_map}
use Rattle.std.proofs.lemmas.List.{map-append}
use Rattle.std.proofs.lemmas.List.Elements.{All-append}
use Rattle.siman_outside.specs.Opening.{seen_as}
use Rattle.siman_outside.specs.Outside.{WasHeld}
use Rattle.siman_file_commands.specs.Join.{Seen, seen_by, all_seen, opening_deeds, OpensPieces}
use Rattle.siman_outside.proofs.Offered.{at_fault, adds_then}
use Rattle.siman_file_commands.proofs.JoinedPieces.{next_name, next_taken, one_named, one_opened, split_names}
use Rattle.siman_file_commands.proofs.join.open_pieces.Goals as goal
use Rattle.std.proofs.Common.{arith}
use Rattle.std.proofs.lemmas.Grind.{common_steps}

pub returns-in_err-file : goal.returns-in_err-file
returns-in_err-file g c =
    let Held = WasHeld (g.O.Outside.holds c.args.outside.now) in
    let made = c.args.new.now in
    let names = map g.S.AsStr.text c.args.names.now in
    let pieces = map (seen_by g.O.Outside.bytes) c.loop-name.pieces.items in
    let i = c.loop-name.name-index in
    let done = c.loop-name.invariant.done in
    let refused = rw c.loop-name.invariant.stays at c.in_err-file.ensures.did in
    let next = next_name g.S.AsStr.text c.args.names.now i c.name-item.result c.as_str-name.result.now c.loop-name-test.true c.name-item.is c.as_str-name.ensures in (
      done.0 ++ refused.0,
      adds_then _ _ _ done.0 refused.0 done.1 refused.1,
      All-append Held done.0 refused.0 done.2 refused.2,
      at_fault (λ r. OpensPieces names made (done.0 ++ refused.0) (seen_as (all_seen g.O.Outside.bytes) r)) c.in_err-file.field-0.0 c.from_residual.result c.from_residual.ensures.1 (
        pieces,
        drop i names,
        refused.0,
        split_names pieces names i c.loop-name.invariant.names,
        ap (λ ds. ds ++ refused.0) done.3,
        inr (c.as_str-name.result.now, drop (i + 1) names, next, refused.3),
      ),
    )

pub returns-in-Err : goal.returns-in-Err
returns-in-Err g c =
    let Held = WasHeld (g.O.Outside.holds c.args.outside.now) in
    let names = map g.S.AsStr.text c.args.names.now in
    let pieces = map (seen_by g.O.Outside.bytes) c.loop-name.pieces.items in
    let i = c.loop-name.name-index in
    let x = c.name-item.result in
    let name = c.as_str-name.result.now in
    let piece : Seen = record { name = name; bytes = g.O.Outside.bytes c.in_ok-file.file } in
    let done = c.loop-name.invariant.done in
    let opened = rw c.loop-name.invariant.stays at c.in_ok-file.ensures.did in
    let more = next_taken g.S.AsStr.text c.args.names.now i x name c.loop-name-test.true c.name-item.is c.as_str-name.ensures in
    let named = one_named pieces piece names i name c.loop-name.invariant.names refl more in
    let deeds = one_opened c.args.new.now pieces piece done.0 opened.0 done.3 opened.3 in (
      done.0 ++ opened.0,
      adds_then _ _ _ done.0 opened.0 done.1 opened.1,
      All-append Held done.0 opened.0 done.2 opened.2,
      (pieces ++ piece ∷ [], drop (i + 1) names, [], split_names (pieces ++ piece ∷ []) names (i + 1) named, deeds ∙ sym (append-nil _), inl (refl, refl)),
    )

pub loop-name-preserved : goal.loop-name-preserved
loop-name-preserved g c =
    let Held = WasHeld (g.O.Outside.holds c.args.outside.now) in
    let see = seen_by g.O.Outside.bytes in
    let names = map g.S.AsStr.text c.args.names.now in
    let items = c.loop-name.pieces.items in
    let pieces = map see items in
    let i = c.loop-name.name-index in
    let x = c.name-item.result in
    let name = c.as_str-name.result.now in
    let piece : Seen = record { name = name; bytes = g.O.Outside.bytes c.in_ok-file.file } in
    let done = c.loop-name.invariant.done in
    let opened = rw c.loop-name.invariant.stays at c.in_ok-file.ensures.did in
    let more = next_taken g.S.AsStr.text c.args.names.now i x name c.loop-name-test.true c.name-item.is c.as_str-name.ensures in
    let held : map see c.push.new.self.items ≡ pieces ++ piece ∷ [] = ap (map see) c.in-Ok.ensures.items ∙ map-append see items (_ ∷ []) in
    record {
      done = (
        done.0 ++ opened.0,
        adds_then _ _ _ done.0 opened.0 done.1 opened.1,
        All-append Held done.0 opened.0 done.2 opened.2,
        one_opened c.args.new.now pieces piece done.0 opened.0 done.3 opened.3 ∙ ap (flat_map (opening_deeds c.args.new.now)) (sym held),
      );
      names = ap (map (λ (p : Seen). p.name)) held ∙ one_named pieces piece names i name c.loop-name.invariant.names refl more;
      stays = c.in_ok-file.ensures.stays ∙ c.loop-name.invariant.stays;
    }

pub loop-name-init : goal.loop-name-init
loop-name-init g c = grind (arith, common_steps)

pub returns : goal.returns
returns g c = grind (arith, common_steps)
