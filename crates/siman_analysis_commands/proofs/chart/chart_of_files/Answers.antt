-- Two files were opened and read, and a picture made of what they have.
use Rattle.std.proofs.Common.{◌≡◌, [], ◌∷◌, List, Err, map, refl}
use Rattle.std.proofs.KnownBytes.{Keeps-refl}
use Rattle.siman_outside.specs.Opening.{Both, OpensInputs, OpensSparing, both}
use Rattle.siman_outside.specs.Outside.{Deed, Reads, WasHeld, stream}
use Rattle.siman_outside.proofs.Offered.{all_two, at_fault, made_known, opened_sparing, makes_unopened, makes_none, makes_file}
use Rattle.siman_analysis_commands.specs.Chart.{ChartsFiles, MakesPicture}
use Rattle.siman_analysis_commands.proofs.chart.chart_of_files.Goals as goal

reading : Both → List Deed
reading known = Reads known.0 ∷ Reads known.1 ∷ []

pub returns : goal.returns
unfolding reading
returns g c =
    let d = g.O.Outside.deeds in
    let h = g.O.Outside.holds in
    let names = c.args.names in
    let made = names.2.now in
    let opens = OpensInputs names.0.now names.1.now made in
    let Gives = ChartsFiles c.args.command.reading (map (λ word. word.now) c.args.command.words.now) c.args.command.window in
    makes_file d h _ _ _ _ (OpensSparing opens c.args.force made) reading (λ known. Gives known.0 known.1) (λ p. MakesPicture p c.args.force made) _ c.in_ok-charted.charted _ (stream _ _)
    c.in_ok-charted.ensures.comes
    (opened_sparing d h _ _ _ (both g.O.Outside.bytes) opens c.args.force made _ _ c.open_inputs-opened.ensures c.in_ok-opened.ensures)
    (made_known d _ _ _ c.in_ok-charted.ensures.done (λ holds. all_two (WasHeld holds) _ _ tt tt)) c.make_file.ensures

pub returns-in_err-charted : goal.returns-in_err-charted
unfolding reading
returns-in_err-charted g c =
    let d = g.O.Outside.deeds in
    let h = g.O.Outside.holds in
    let names = c.args.names in
    let made = names.2.now in
    let opens = OpensInputs names.0.now names.1.now made in
    let Gives = ChartsFiles c.args.command.reading (map (λ word. word.now) c.args.command.words.now) c.args.command.window in
    let fault = c.in_err-charted.field-0.0 in
    let kept = g.W.Write.contents c.args.out.now in
    makes_none d h _ _ _ (OpensSparing opens c.args.force made) reading (λ known. Gives known.0 known.1) (λ p. MakesPicture p c.args.force made) _ fault _ (stream kept kept)
    c.in_err-charted.ensures.comes (at_fault (λ r. r ≡ Err fault) fault _ c.from_residual-in_err-charted.ensures.1 refl) (Keeps-refl kept)
    (opened_sparing d h _ _ _ (both g.O.Outside.bytes) opens c.args.force made _ _ c.open_inputs-opened.ensures c.in_ok-opened.ensures)
    (made_known d _ _ _ c.in_err-charted.ensures.done (λ holds. all_two (WasHeld holds) _ _ tt tt))

pub returns-in_err-opened : goal.returns-in_err-opened
unfolding reading
returns-in_err-opened g c =
    let d = g.O.Outside.deeds in
    let h = g.O.Outside.holds in
    let names = c.args.names in
    let made = names.2.now in
    let opens = OpensInputs names.0.now names.1.now made in
    let Gives = ChartsFiles c.args.command.reading (map (λ word. word.now) c.args.command.words.now) c.args.command.window in
    let fault = c.in_err-opened.field-0.0 in
    let kept = g.W.Write.contents c.args.out.now in
    makes_unopened d h _ _ (OpensSparing opens c.args.force made) reading (λ known. Gives known.0 known.1) (λ p. MakesPicture p c.args.force made) fault _ (stream kept kept) (at_fault (λ r. r ≡ Err fault) fault _ c.from_residual.ensures.1 refl) (Keeps-refl kept)
    (opened_sparing d h _ _ _ (both g.O.Outside.bytes) opens c.args.force made _ _ c.open_inputs-opened.ensures c.in_err-opened.ensures)
