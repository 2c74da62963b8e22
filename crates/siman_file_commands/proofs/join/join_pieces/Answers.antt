-- The pieces were opened and read, and the file made of what they give.
use Rattle.std.proofs.Common.{◌++◌, map, inl, inr, refl}
use Rattle.std.proofs.lemmas.List.Elements.{All-append}
use Rattle.std.proofs.KnownBytes.{Keeps-refl}
use Rattle.siman_outside.specs.Outside.{WasHeld, stream}
use Rattle.siman_file_commands.specs.Join.{OpensPieces, JoinsPieces, all_seen}
use Rattle.siman_outside.proofs.Offered.{at_fault, adds_then, did_so, did_then, opened_sparing}
use Rattle.siman_file_commands.proofs.join.join_pieces.Goals as goal

pub returns-in_err-pieces : goal.returns-in_err-pieces
returns-in_err-pieces g c =
    let d = g.O.Outside.deeds in
    let h = g.O.Outside.holds in
    let names = map g.S.AsStr.text c.args.names.now in
    let kept = g.W.Write.contents c.args.out.now in
    let opened = opened_sparing d h _ _ _ (all_seen g.O.Outside.bytes) (OpensPieces names c.args.new.now) c.args.force c.args.new.now _ _ c.open_pieces-opened.ensures c.in_err-pieces.ensures in
    did_so d h _ _ _ _ (λ deeds opens. at_fault (λ answered. JoinsPieces names c.args.force c.args.new.now c.args.choices deeds answered (stream kept kept)) _ _ c.from_residual.ensures.1
    (inl (c.in_err-pieces.field-0.0, opens, refl, Keeps-refl kept))) opened

pub returns-in_err-joined : goal.returns-in_err-joined
returns-in_err-joined g c =
    let d = g.O.Outside.deeds in
    let h = g.O.Outside.holds in
    let names = map g.S.AsStr.text c.args.names.now in
    let kept = g.W.Write.contents c.args.out.now in
    let opened = opened_sparing d h _ _ _ (all_seen g.O.Outside.bytes) (OpensPieces names c.args.new.now) c.args.force c.args.new.now _ _ c.open_pieces-opened.ensures c.in_ok-pieces.ensures in
    did_then d h _ _ _ _ _ _ (λ xs ys opens read. at_fault (λ answered. JoinsPieces names c.args.force c.args.new.now c.args.choices (xs ++ ys) answered (stream kept kept)) _ _
    c.from_residual-in_err-joined.ensures.1 (inr (inl (_, xs, ys, c.in_err-joined.field-0.0, opens, read, refl, refl, Keeps-refl kept)))) opened c.in_err-joined.ensures

pub returns : goal.returns
returns g c =
    let d = g.O.Outside.deeds in
    let h = g.O.Outside.holds in
    let holds = h c.args.outside.now in
    let Held = WasHeld holds in
    let names = map g.S.AsStr.text c.args.names.now in
    let opened = opened_sparing d h _ _ _ (all_seen g.O.Outside.bytes) (OpensPieces names c.args.new.now) c.args.force c.args.new.now _ _ c.open_pieces-opened.ensures c.in_ok-pieces.ensures in
    let read = c.in_ok-joined.ensures in
    let made = c.make_file.ensures in
    let before = opened.0 ++ read.0 in (
      before ++ made.0,
      adds_then _ _ _ before made.0 (adds_then _ _ _ opened.0 read.0 opened.1 read.1) made.1,
      All-append Held before made.0 (All-append Held opened.0 read.0 opened.2 (read.2 holds)) (made.2 holds),
      inr (inr (all_seen g.O.Outside.bytes c.in_ok-pieces.pieces, opened.0, read.0, made.0, c.in_ok-joined.joined, opened.3, read.3, refl, made.3)),
    )
