use Rattle.exercise_model.specs.Recording.{PlainRecording}
use Rattle.exercise_conflict.specs.Repair.{repaired}
use Rattle.exercise_conflict.proofs.Repairs.{repaired_further}
use Rattle.exercise_conflict.proofs.repair.enough_without_able.Goals as goal

pub returns-then-has_standing_cause : goal.returns-then-has_standing_cause
returns-then-has_standing_cause g c =
    let r : PlainRecording = c.args.findings.now in
    (c.requires.fits, c.requires.able, λ h explains. c.has_standing_cause.ensures.stays c.if-has_standing_cause.true (repaired r) h (repaired_further r c.requires.able) explains)
