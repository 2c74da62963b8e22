use Rattle.std.proofs.Common.{sym, ◌∙◌}
use Rattle.siman_tests.proofs.Results.{some_is}
use Rattle.siman_tests.proofs.uses.gap.must_be_filled.Goals as goal

pub returns : goal.returns
returns g c =
    some_is c.missing_at.result _
    (λ m there wide h is wider run. c.missing_is_needed.ensures c.args.findings.now wide h c.args.entry m is wider run (sym c.missing_at.ensures ∙ there))
