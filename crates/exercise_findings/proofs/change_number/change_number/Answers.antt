use Rattle.std.proofs.Common.{sym, ap, ◌∙◌}
use Rattle.std.proofs.lemmas.Nat.{div-mul-add, mod-mul-add}
use Rattle.exercise_findings.specs.ChangeNumber.{scope_in}
use Rattle.exercise_findings.proofs.ChangeNumbers.{change_is}
use Rattle.exercise_findings.proofs.change_number.change_number.Goals as goal

pub returns-in-Some : goal.returns-in-Some
returns-in-Some c =
    change_is c.in-Some.change.kind c.in-Some.change.scope _
    (div-mul-add c.from.result 131072 c.scope_number.result c.scope_number.ensures.few ∙ c.from.ensures ∙ c.code.ensures)
    (ap scope_in (mod-mul-add c.from.result 131072 c.scope_number.result c.scope_number.ensures.few) ∙ c.scope_number.ensures.scope)
    ∙ sym c.in-Some.is
