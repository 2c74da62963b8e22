use Rattle.std.proofs.Common.{sym, ap, ◌∙◌}
use Rattle.std.specs.Prelude.{is_some}
use Rattle.siman_pdus.specs.Reading.{pdu_of}
use Rattle.exercise_findings.proofs.Recorded.{recorded_sender}
use Rattle.exercise_findings.proofs.sender.sender_of.Goals as goal

pub returns-in-Some-clause-recorded : goal.returns-in-Some-clause-recorded
returns-in-Some-clause-recorded g c =
    sym (ap is_some c.in-Some.ensures) ∙ recorded_sender (g.L.ExerciseLog.recording c.args.log.now) (pdu_of c.args.pdu.now)
