use Rattle.siman_tests.proofs.uses.pieces.are_blamed_log_by_log.Goals as goal

pub returns : goal.returns
returns c = λ word other first second whole good none h.
    c.whole_logs_are_explained.ensures.blocked word other c.args.log.now c.args.parts.now first second whole good none h
