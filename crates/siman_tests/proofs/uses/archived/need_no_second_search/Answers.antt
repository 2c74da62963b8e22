use Rattle.siman_tests.proofs.Results.{if_then}
use Rattle.siman_tests.proofs.uses.archived.need_no_second_search.Goals as goal

pub returns : goal.returns
returns c = λ first.
    if_then c.audit.result (λ answer. (c.conversion_keeps_searches.ensures.answers c.args.recording.now answer first).0) c.audit.ensures
