use Rattle.std.proofs.Common.{subst, sym, ◌↔◌}
use Rattle.exercise_model.specs.Recording.{PlainRecording}
use Rattle.exercise_model.specs.Run.{Explains}
use Rattle.siman_tests.proofs.uses.pieces.may_be_one.Goals as goal

pub returns : goal.returns
returns c = λ h is first.
    subst (λ (q : PlainRecording). Explains c.args.piece.now h ↔ Explains q h) (sym (c.one_piece_is_converted.ensures c.args.piece.now is first))
    (c.conversion_keeps_runs.ensures.explained c.args.piece.now h first)
