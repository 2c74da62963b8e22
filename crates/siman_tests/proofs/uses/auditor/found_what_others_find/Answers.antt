use Rattle.siman_tests.proofs.Results.{on_then}
use Rattle.siman_tests.proofs.uses.auditor.found_what_others_find.Goals as goal

pub returns : goal.returns
returns c = λ other is good.
    on_then c.check.result (λ found. c.links_are_of_the_logs.ensures.order c.args.recording.now c.args.certificate.now.steps.items other is found good)
    c.check.ensures.good
