use Rattle.std.proofs.Common.{ap, ◌∙◌}
use Rattle.std.specs.Prelude.{is_some}
use Rattle.siman_pdus.specs.Reading.{pdu_of}
use Rattle.exercise_model.specs.Recording.{PlainRecording}
use Rattle.exercise_conflict.proofs.Lacking.{recorded_sender}
use Rattle.exercise_conflict.proofs.step_clashing.is_recorded.Goals as goal

pub returns : goal.returns
returns g c =
    let r : PlainRecording = c.args.findings.now in
    c.is_some.ensures ∙ ap is_some c.sender_of.ensures ∙ recorded_sender r (pdu_of c.args.pdu.now)
