-- A file was opened and read, something made of what it has, and another file of that.
use Rattle.std.proofs.Common.{ℕ, List, [], ◌∷◌, Option, refl}
use Rattle.std.proofs.KnownBytes.{Keeps-refl}
use Rattle.siman_outside.specs.Making.{MakesProduct}
use Rattle.siman_outside.specs.Opening.{OpensInput, OpensSparing}
use Rattle.siman_outside.specs.Outside.{Deed, Reads, WasHeld, stream}
use Rattle.siman_outside.proofs.Openings.{all_one, made_known, opened_sparing, makes_unopened, makes_none, makes_file}
use Rattle.siman_outside.proofs.product.make_of_file.Goals as goal

reading : Option (List ℕ) → List Deed
reading known = Reads known ∷ []

pub returns-in-Ok-read : goal.returns-in-Ok-read
unfolding reading
returns-in-Ok-read g c =
    let d = g.O.Outside.deeds in
    let h = g.O.Outside.holds in
    let made = c.args.names.1.now in
    let opens = OpensInput c.args.names.0.now made in
    makes_file d h _ _ _ _ (OpensSparing opens c.args.force made) reading (g.C.OfFile.reads c.args.command) (λ p. MakesProduct g.C.Made.Making.puts p c.args.force made) _ c.in-Ok-read.product _ (stream _ _)
    (rw c.read.ensures.same at c.in-Ok-read.ensures)
    (opened_sparing d h _ _ _ g.O.Outside.bytes opens c.args.force made _ _ c.open_input-opened.ensures.did c.in-Ok.ensures)
    (made_known d _ _ _ c.read.ensures.done (λ holds. all_one (WasHeld holds) _ tt)) c.make.ensures

pub returns-in-Err-read : goal.returns-in-Err-read
unfolding reading
returns-in-Err-read g c =
    let d = g.O.Outside.deeds in
    let h = g.O.Outside.holds in
    let made = c.args.names.1.now in
    let opens = OpensInput c.args.names.0.now made in
    let kept = g.W.Write.contents c.args.out.now in
    makes_none d h _ _ _ (OpensSparing opens c.args.force made) reading (g.C.OfFile.reads c.args.command) (λ p. MakesProduct g.C.Made.Making.puts p c.args.force made) _ c.in-Err-read.fault _ (stream kept kept)
    (rw c.read.ensures.same at c.in-Err-read.ensures) refl (Keeps-refl kept)
    (opened_sparing d h _ _ _ g.O.Outside.bytes opens c.args.force made _ _ c.open_input-opened.ensures.did c.in-Ok.ensures)
    (made_known d _ _ _ c.read.ensures.done (λ holds. all_one (WasHeld holds) _ tt))

pub returns-in-Err : goal.returns-in-Err
unfolding reading
returns-in-Err g c =
    let d = g.O.Outside.deeds in
    let h = g.O.Outside.holds in
    let made = c.args.names.1.now in
    let opens = OpensInput c.args.names.0.now made in
    let kept = g.W.Write.contents c.args.out.now in
    makes_unopened d h _ _ (OpensSparing opens c.args.force made) reading (g.C.OfFile.reads c.args.command) (λ p. MakesProduct g.C.Made.Making.puts p c.args.force made) c.in-Err.fault _ (stream kept kept) refl (Keeps-refl kept)
    (opened_sparing d h _ _ _ g.O.Outside.bytes opens c.args.force made _ _ c.open_input-opened.ensures.did c.in-Err.ensures)
