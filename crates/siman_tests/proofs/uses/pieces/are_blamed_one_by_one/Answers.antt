use Rattle.std.proofs.Common.{subst, sym}
use Rattle.exercise_model.specs.Recording.{PlainRecording}
use Rattle.exercise_model.specs.Run.{Explains}
use Rattle.siman_tests.proofs.uses.pieces.are_blamed_one_by_one.Goals as goal

pub returns : goal.returns
returns c = λ word k r are there is none h.
    c.pieces_are_explained.ensures.blocked word c.args.pieces.now k r are there
    (λ g run. none g (subst (λ (q : PlainRecording). Explains q g) (sym (c.pieces_are_explained.ensures.alone r is)) run)) h
