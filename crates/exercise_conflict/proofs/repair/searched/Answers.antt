use Rattle.std.proofs.Common.{subst}
use Rattle.exercise_model.specs.Recording.{PlainRecording, IsRecording}
use Rattle.exercise_model.specs.Run.{Explains}
use Rattle.exercise_check.specs.Sequence.{sequence_of}
use Rattle.exercise_check.specs.Goodness.{IsGood}
use Rattle.exercise_check.proofs.Offered.{good_explains}
use Rattle.exercise_conflict.specs.Repair.{repaired}
use Rattle.exercise_conflict.proofs.repair.searched.Goals as goal

pub returns-in-Explained : goal.returns-in-Explained
returns-in-Explained g c =
    let steps = c.in-Explained.field-0.steps.items in
    let x : PlainRecording = c.args.whole.now in
    let good : IsGood x steps = (rw c.in-Explained.is at c.in_ok-audit.ensures).0 in
    (c.requires.fits, (sequence_of x steps, subst (λ (y : PlainRecording). Explains y (sequence_of x steps)) c.requires.repaired (good_explains x c.requires.limits steps good)))
