use Rattle.siman_tests.proofs.uses.part.may_be_blamed_alone.Goals as goal

pub returns : goal.returns
returns c = λ whole index is part none h run. none _ (c.parts_are_explained.ensures c.args.part.now whole index h is part run)
