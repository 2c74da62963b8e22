use Rattle.std.proofs.Common.{◌≡◌, ◌%◌, length, refl, sym, ap, ◌∙◌, arith}
use Rattle.std.specs.Prelude.{slice_get, option_copied}
use Rattle.std.proofs.lemmas.Option.{slice_get_read}
use Rattle.exercise_findings.proofs.EntityStates.{got, held_at-there, held_at-beyond}
use Rattle.exercise_findings.proofs.states.held_at.Goals as goal

pub returns-then-page-len : goal.returns-then-page-len
returns-then-page-len c =
    let pages = c.args.states.now.pages in
    let at = slice_get_read pages.items (length pages.items) c.from-page.result c.index.result.now refl
    (omega (arith, pages.ok.0, c.if-page-len.true, c.len.ensures)) c.index.ensures in
    let read : option_copied c.get.result ≡ slice_get c.index.result.now.items (c.args.entity % 256) =
    got c.deref.result.now c.from.result c.get.result c.get.ensures.lookup.0 c.get.ensures.lookup.1
    ∙ ap (λ xs. slice_get xs c.from.result) c.deref.ensures.value ∙ ap (slice_get c.index.result.now.items) c.from.ensures in
    c.copied.ensures ∙ read ∙ held_at-there pages.items c.index.result.now c.args.entity c.from-page.result c.from-page.ensures at

pub returns-else-page-len : goal.returns-else-page-len
returns-else-page-len c =
    let pages = c.args.states.now.pages in
    sym (held_at-beyond pages.items c.args.entity c.from-page.result c.from-page.ensures
    (omega (arith, pages.ok.0, c.if-page-len.false, c.len.ensures)))
