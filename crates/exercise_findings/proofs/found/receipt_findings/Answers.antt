use Rattle.std.proofs.Common.{sym, ap, ◌∙◌, subst}
use Rattle.std.specs.Prelude.{option_map}
use Rattle.siman_pdus.specs.Reading.{pdu_of}
use Rattle.exercise_model.specs.Meaning.{meaning}
use Rattle.exercise_findings.specs.declared.found.Found.{Found}
use Rattle.exercise_findings.specs.Tables.{IsFound}
use Rattle.exercise_findings.proofs.Looks.{received_found, other_received}
use Rattle.exercise_findings.proofs.found.receipt_findings.Goals as goal

pub returns-in-Some : goal.returns-in-Some
returns-in-Some g c =
    let r = g.L.ExerciseLog.recording c.args.log.now in
    let b = c.args.bytes.now in
    let here = c.pdu_receipt_findings.ensures in
    received_found r c.args.entry c.args.station c.requires.receives.0 b (pdu_of c.in-Some.pdu) c.pdu_receipt_findings.result c.requires.receives.1
    (ap (λ x. meaning x b) (sym c.exercise.ensures) ∙ sym c.meaning_view.ensures ∙ ap (option_map pdu_of) c.in-Some.is)
    (here.cause b) here.pair here.unasked here.change here.key here.base here.behind here.source here.new here.other

pub returns-in-None : goal.returns-in-None
returns-in-None g c =
    let r = g.L.ExerciseLog.recording c.args.log.now in
    let b = c.args.bytes.now in
    subst (λ (f : Found). IsFound r c.args.entry f) (sym c.other_findings.ensures)
    (other_received r c.args.entry c.args.station c.requires.receives.0 b c.requires.receives.1
    (ap (λ x. meaning x b) (sym c.exercise.ensures) ∙ sym c.meaning_view.ensures ∙ ap (option_map pdu_of) c.in-None.is))
