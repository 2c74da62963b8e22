use Rattle.std.proofs.Common.{sym, ◌∙◌}
use Rattle.siman_tests.proofs.Results.{some_is}
use Rattle.siman_tests.proofs.uses.order.change_carried_out.Goals as goal

pub returns : goal.returns
returns g c =
    some_is c.change_of_order.result _
    (λ i there h run. c.changes_are_made.ensures.order c.args.findings.now h _ c.args.station i run (sym c.change_of_order.ensures ∙ there))
