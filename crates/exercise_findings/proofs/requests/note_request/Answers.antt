use Rattle.std.proofs.Common.{sym, ◌∙◌}
use Rattle.siman_pdus.specs.Reading.{pdu_of}
use Rattle.exercise_findings.proofs.Reused.{requests_still}
use Rattle.exercise_findings.proofs.requests.note_request.Goals as goal

pub returns-in-None-clause-tied : goal.returns-in-None-clause-tied
returns-in-None-clause-tied g c =
    let r = g.L.ExerciseLog.recording c.args.log.now in
    requests_still r c.args.entry c.args.station (pdu_of c.args.pdu.now) c.args.requests.now c.requires.sends
    (sym c.identifier_of.ensures ∙ c.in-None.is) c.requires.tied
