use Rattle.std.proofs.Common.{subst}
use Rattle.exercise_model.specs.Recording.{PlainRecording}
use Rattle.exercise_check.specs.Sequence.{sequence_of}
use Rattle.exercise_check.specs.Goodness.{IsGood}
use Rattle.exercise_check.proofs.Offered.{good_explains}
use Rattle.exercise_conflict.proofs.blame.fault_of.Goals as goal

pub returns-in-Explained-clause-certificate : goal.returns-in-Explained-clause-certificate
returns-in-Explained-clause-certificate g c =
    let r : PlainRecording = c.args.findings.now in
    let steps = c.in-Explained.field-0.steps.items in
    let good : IsGood r steps = subst (λ (x : PlainRecording). IsGood x steps) c.log.ensures (rw c.in-Explained.is at c.in_ok-audit.ensures).0 in
    λ told. (sequence_of r steps, good_explains r c.has_standing_cause.ensures.limits steps good)
