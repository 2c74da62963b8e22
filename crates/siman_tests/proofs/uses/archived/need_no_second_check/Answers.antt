use Rattle.siman_tests.proofs.Results.{on_then, err_then}
use Rattle.siman_tests.proofs.uses.archived.need_no_second_check.Goals as goal

pub returns-clause-yes : goal.returns-clause-yes
returns-clause-yes c = λ first.
    on_then c.check.result (c.conversion_keeps_checks.ensures.good c.args.recording.now c.args.certificate.now.steps.items first).0 c.check.ensures.good

pub returns-clause-no : goal.returns-clause-no
returns-clause-no c = λ first.
    err_then c.check.result (λ fault. (c.conversion_keeps_checks.ensures.bad c.args.recording.now c.args.certificate.now.steps.items fault first).0) c.check.ensures.bad
