-- Two files were opened and read, and a recording made of what they have.
use Rattle.std.proofs.Common.{◌≡◌, [], ◌∷◌, List, Err, refl}
use Rattle.std.proofs.KnownBytes.{Keeps-refl}
use Rattle.siman_outside.specs.Making.{MakesProduct}
use Rattle.siman_outside.specs.Opening.{Both, OpensInputs, OpensSparing, both}
use Rattle.siman_outside.specs.Outside.{Deed, Reads, WasHeld, stream}
use Rattle.siman_outside.proofs.Offered.{all_two, at_fault, made_known, opened_sparing, makes_unopened, makes_none, makes_file}
use Rattle.siman_exercise_commands.specs.Import.{ImportsFiles, PutsImported, importing_of}
use Rattle.siman_exercise_commands.proofs.import.import_of_files.Goals as goal

reading : Both → List Deed
reading known = Reads known.0 ∷ Reads known.1 ∷ []

pub returns : goal.returns
unfolding reading
returns g c =
    let d = g.O.Outside.deeds in
    let h = g.O.Outside.holds in
    let words = c.args.words.now in
    let made = words.recording.now in
    let opens = OpensInputs words.setup.now words.capture.now made in
    let Gives = ImportsFiles (importing_of c.args.importing.now) in
    makes_file d h _ _ _ _ (OpensSparing opens c.args.force made) reading (λ known. Gives known.0 known.1) (λ p. MakesProduct PutsImported p c.args.force made) _ c.in_ok-made.made _ (stream _ _)
    c.in_ok-made.ensures.comes
    (opened_sparing d h _ _ _ (both g.O.Outside.bytes) opens c.args.force made _ _ c.open_inputs-opened.ensures c.in_ok-opened.ensures)
    (made_known d _ _ _ c.in_ok-made.ensures.done (λ holds. all_two (WasHeld holds) _ _ tt tt)) c.make.ensures

pub returns-in_err-made : goal.returns-in_err-made
unfolding reading
returns-in_err-made g c =
    let d = g.O.Outside.deeds in
    let h = g.O.Outside.holds in
    let words = c.args.words.now in
    let made = words.recording.now in
    let opens = OpensInputs words.setup.now words.capture.now made in
    let Gives = ImportsFiles (importing_of c.args.importing.now) in
    let fault = c.in_err-made.field-0.0 in
    let kept = g.W.Write.contents c.args.out.now in
    makes_none d h _ _ _ (OpensSparing opens c.args.force made) reading (λ known. Gives known.0 known.1) (λ p. MakesProduct PutsImported p c.args.force made) _ fault _ (stream kept kept)
    c.in_err-made.ensures.comes (at_fault (λ r. r ≡ Err fault) fault _ c.from_residual-in_err-made.ensures.1 refl) (Keeps-refl kept)
    (opened_sparing d h _ _ _ (both g.O.Outside.bytes) opens c.args.force made _ _ c.open_inputs-opened.ensures c.in_ok-opened.ensures)
    (made_known d _ _ _ c.in_err-made.ensures.done (λ holds. all_two (WasHeld holds) _ _ tt tt))

pub returns-in_err-opened : goal.returns-in_err-opened
unfolding reading
returns-in_err-opened g c =
    let d = g.O.Outside.deeds in
    let h = g.O.Outside.holds in
    let words = c.args.words.now in
    let made = words.recording.now in
    let opens = OpensInputs words.setup.now words.capture.now made in
    let Gives = ImportsFiles (importing_of c.args.importing.now) in
    let fault = c.in_err-opened.field-0.0 in
    let kept = g.W.Write.contents c.args.out.now in
    makes_unopened d h _ _ (OpensSparing opens c.args.force made) reading (λ known. Gives known.0 known.1) (λ p. MakesProduct PutsImported p c.args.force made) fault _ (stream kept kept) (at_fault (λ r. r ≡ Err fault) fault _ c.from_residual.ensures.1 refl) (Keeps-refl kept)
    (opened_sparing d h _ _ _ (both g.O.Outside.bytes) opens c.args.force made _ _ c.open_inputs-opened.ensures c.in_err-opened.ensures)
