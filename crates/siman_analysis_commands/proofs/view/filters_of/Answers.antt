-- The first word that asks for no filter is told.
use Rattle.std.proofs.Common.{◌≡◌, ◌++◌, None, sym, ap, ◌∙◌, inl, append-nil}
use Rattle.std.specs.Prelude.{codes}
use Rattle.siman_analysis_commands.specs.FilterWords.{filter_of}
use Rattle.siman_analysis_commands.proofs.Reviewed.{first_bad}
use Rattle.siman_analysis_commands.proofs.view.filters_of.Goals as goal

pub returns-in-None : goal.returns-in-None
returns-in-None g c =
    let text = g.S.AsStr.text in
    let word = c.word-item.result in
    let read : c.as_bytes.result.now ≡ text word = c.as_bytes.ensures.value ∙ c.as_str-word.ensures in
    let bad : filter_of c.args.view (text word) ≡ None = ap (filter_of c.args.view) (sym read) ∙ sym c.filter_of.ensures ∙ c.in-None.is in
    let first = first_bad c.args.view text c.args.words.now c.loop-word.word-index word c.loop-word.filters.items c.loop-word-test.true c.word-item.is c.loop-word.invariant bad in
    inl (text word, first, append-nil (codes "filter: " ++ c.as_str-word.result.now) ∙ ap (λ t. codes "filter: " ++ t) c.as_str-word.ensures)
