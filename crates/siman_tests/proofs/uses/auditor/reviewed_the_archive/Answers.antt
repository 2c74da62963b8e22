use Rattle.siman_tests.proofs.uses.auditor.reviewed_the_archive.Goals as goal

pub returns : goal.returns
returns g c = λ first. (c.conversion_keeps_views.ensures.reviews c.args.findings c.review_of.result first).0 c.review_of.ensures
