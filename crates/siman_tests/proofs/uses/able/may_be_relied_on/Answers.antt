use Rattle.siman_tests.proofs.uses.able.may_be_relied_on.Goals as goal

pub returns : goal.returns
returns c = λ h before s b p i is run received stands meant responds recorded.
    let found = c.changes_are_known.ensures.there c.args.recording.now h before s b p i is run received stands meant responds recorded in
    (found.0, found.1, found.2, found.2.only)
