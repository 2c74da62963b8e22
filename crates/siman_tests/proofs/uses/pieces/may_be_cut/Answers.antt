use Rattle.std.proofs.Common.{◌∷◌, subst, sym}
use Rattle.exercise_model.specs.Recording.{PlainRecording}
use Rattle.exercise_model.specs.Run.{Explains}
use Rattle.exercise_recording.specs.declared.joined.FormWord.TheVariants.{Open}
use Rattle.siman_tests.proofs.uses.pieces.may_be_cut.Goals as goal

pub returns : goal.returns
returns c = λ h good each cut.
    let same = c.cut_logs_go_on.ensures Open c.args.log.now c.args.first.now c.args.later.now good each cut in
    (subst (λ (q : PlainRecording). Explains q h) (sym same), subst (λ (q : PlainRecording). Explains q h) same)
