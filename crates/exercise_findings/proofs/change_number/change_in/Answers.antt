use Rattle.std.proofs.Common.{sym, ◌∙◌}
use Rattle.std.proofs.lemmas.Result.{OkIff-at_ok}
use Rattle.exercise_findings.proofs.ChangeNumbers.{change_is}
use Rattle.exercise_findings.proofs.change_number.change_in.Goals as goal

pub returns : goal.returns
returns c =
    sym (change_is c.in_ok-kind.kind c.scope_in.result c.args.number
    (sym (OkIff-at_ok _ _ _ _ c.try_from.ensures c.in-Ok.is).1 ∙ sym c.in_ok-kind.ensures.kind)
    (sym c.scope_in.ensures))
