use Rattle.std.proofs.Common.{sym, ◌∙◌}
use Rattle.siman_tests.proofs.Results.{some_is}
use Rattle.siman_tests.proofs.uses.change.made_the_state.Goals as goal

pub returns-clause-made : goal.returns-clause-made
returns-clause-made g c =
    some_is c.last_change_entry.result _
    (λ k there. c.states_are_made.ensures.made c.args.findings.now c.args.station c.args.entity c.args.before k (sym c.last_change_entry.ensures ∙ there))

pub returns-clause-start : goal.returns-clause-start
returns-clause-start g c = λ none.
    c.states_are_made.ensures.start c.args.findings.now c.args.station c.args.entity c.args.before (sym c.last_change_entry.ensures ∙ none)
