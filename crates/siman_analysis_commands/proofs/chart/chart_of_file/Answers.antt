-- The recording was opened and read, and a picture made of what it has.
use Rattle.std.proofs.Common.{◌≡◌, ℕ, [], ◌∷◌, List, Option, Err, map, refl}
use Rattle.std.proofs.KnownBytes.{Keeps-refl}
use Rattle.siman_outside.specs.Opening.{OpensInput, OpensSparing}
use Rattle.siman_outside.specs.Outside.{Deed, Reads, WasHeld, stream}
use Rattle.siman_outside.proofs.Offered.{all_one, at_fault, made_known, opened_sparing, makes_unopened, makes_none, makes_file}
use Rattle.siman_analysis_commands.specs.Chart.{ChartsFile, MakesPicture}
use Rattle.siman_analysis_commands.proofs.chart.chart_of_file.Goals as goal

reading : Option (List ℕ) → List Deed
reading known = Reads known ∷ []

pub returns : goal.returns
unfolding reading
returns g c =
    let d = g.O.Outside.deeds in
    let h = g.O.Outside.holds in
    let names = c.args.names in
    let made = names.1.now in
    let opens = OpensInput names.0.now made in
    let Gives = ChartsFile c.args.command.reading (map (λ word. word.now) c.args.command.words.now) c.args.command.window in
    makes_file d h _ _ _ _ (OpensSparing opens c.args.force made) reading Gives (λ p. MakesPicture p c.args.force made) _ c.in_ok-charted.charted _ (stream _ _)
    c.in_ok-charted.ensures.comes
    (opened_sparing d h _ _ _ g.O.Outside.bytes opens c.args.force made _ _ c.open_input-opened.ensures.did c.in_ok-opened.ensures)
    (made_known d _ _ _ c.in_ok-charted.ensures.done (λ holds. all_one (WasHeld holds) _ tt)) c.make_file.ensures

pub returns-in_err-charted : goal.returns-in_err-charted
unfolding reading
returns-in_err-charted g c =
    let d = g.O.Outside.deeds in
    let h = g.O.Outside.holds in
    let names = c.args.names in
    let made = names.1.now in
    let opens = OpensInput names.0.now made in
    let Gives = ChartsFile c.args.command.reading (map (λ word. word.now) c.args.command.words.now) c.args.command.window in
    let fault = c.in_err-charted.field-0.0 in
    let kept = g.W.Write.contents c.args.out.now in
    makes_none d h _ _ _ (OpensSparing opens c.args.force made) reading Gives (λ p. MakesPicture p c.args.force made) _ fault _ (stream kept kept)
    c.in_err-charted.ensures.comes (at_fault (λ r. r ≡ Err fault) fault _ c.from_residual-in_err-charted.ensures.1 refl) (Keeps-refl kept)
    (opened_sparing d h _ _ _ g.O.Outside.bytes opens c.args.force made _ _ c.open_input-opened.ensures.did c.in_ok-opened.ensures)
    (made_known d _ _ _ c.in_err-charted.ensures.done (λ holds. all_one (WasHeld holds) _ tt))

pub returns-in_err-opened : goal.returns-in_err-opened
unfolding reading
returns-in_err-opened g c =
    let d = g.O.Outside.deeds in
    let h = g.O.Outside.holds in
    let names = c.args.names in
    let made = names.1.now in
    let opens = OpensInput names.0.now made in
    let Gives = ChartsFile c.args.command.reading (map (λ word. word.now) c.args.command.words.now) c.args.command.window in
    let fault = c.in_err-opened.field-0.0 in
    let kept = g.W.Write.contents c.args.out.now in
    makes_unopened d h _ _ (OpensSparing opens c.args.force made) reading Gives (λ p. MakesPicture p c.args.force made) fault _ (stream kept kept) (at_fault (λ r. r ≡ Err fault) fault _ c.from_residual.ensures.1 refl) (Keeps-refl kept)
    (opened_sparing d h _ _ _ g.O.Outside.bytes opens c.args.force made _ _ c.open_input-opened.ensures.did c.in_err-opened.ensures)
