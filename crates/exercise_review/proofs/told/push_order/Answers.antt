use Rattle.std.proofs.Common.{◌≡◌, true, false, sym, ◌∙◌, subst}
use Rattle.std.proofs.lemmas.Bool.{eq-eqb}
use Rattle.exercise_review.specs.Order.{order_of}
use Rattle.exercise_review.specs.Row.{AddsRows}
use Rattle.exercise_review.proofs.Orders.{told_at_parties}
use Rattle.exercise_review.proofs.told.push_order.Goals as goal

pub returns : goal.returns
returns g c =
    subst (λ added. AddsRows c.args.findings.now c.args.most c.args.rows.now.items added c.push_parties.result c.push_parties.new.rows.items)
    (told_at_parties c.args.findings.now (order_of c.args.order.now) c.deref.result.now (c.deref.ensures.value ∙ c.in_ok-parties_by.ensures)
    (λ none. let no : false ≡ true = c.if-is_empty.ensures ∙ eq-eqb _ 0 (sym c.deref.ensures.len ∙ none) in absurd (cc)))
    c.push_parties.ensures
