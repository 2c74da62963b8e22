use Rattle.std.proofs.Common.{sym, ap, ◌∙◌, subst}
use Rattle.std.specs.Prelude.{option_map}
use Rattle.siman_pdus.specs.declared.pdu.Pdu.{Pdu}
use Rattle.siman_pdus.specs.Reading.{pdu_of}
use Rattle.exercise_model.specs.Entry.{Sent}
use Rattle.exercise_model.specs.Meaning.{meaning}
use Rattle.exercise_findings.specs.declared.found.Found.{Found}
use Rattle.exercise_findings.specs.Tables.{IsFound}
use Rattle.exercise_findings.proofs.Looks.{sent_found, other_sent}
use Rattle.exercise_findings.specs.FirstSends.{IsNewSend}
use Rattle.exercise_findings.proofs.HigherMarks.{new_either, rising_pass, other_unmarked}
use Rattle.exercise_findings.proofs.Reused.{requests_pass, other_unasked}
use Rattle.exercise_findings.proofs.found.send_findings.Goals as goal

pub returns-in_ok-asked-in-Some-clause-found : goal.returns-in_ok-asked-in-Some-clause-found
returns-in_ok-asked-in-Some-clause-found g c =
    let r = g.L.ExerciseLog.recording c.args.log.now in
    let p : Pdu = pdu_of c.in-Some.pdu in
    let b = c.args.bytes.now in
    sent_found r c.args.place.entry c.args.place.station p c.pdu_send_findings.result c.requires.limits c.requires.at
    (record {
      bytes = b;
      stamp = c.requires.sends.0;
      at = c.requires.sends.1;
      means = ap (λ x. meaning x b) (sym c.exercise.ensures) ∙ sym c.meaning_view.ensures ∙ ap (option_map pdu_of) c.in-Some.is;
    })
    c.pdu_send_findings.ensures.cause c.pdu_send_findings.ensures.pair c.pdu_send_findings.ensures.unasked c.pdu_send_findings.ensures.change c.pdu_send_findings.ensures.key c.pdu_send_findings.ensures.base c.pdu_send_findings.ensures.behind
    c.pdu_send_findings.ensures.source
    (λ new. new_either _ _ (IsNewSend r c.args.place.entry) (sym c.pdu_send_findings.ensures.new ∙ new) c.in_ok-asked-in-Some.ensures.first c.raise_mark-is_above.ensures.new)
    c.pdu_send_findings.ensures.other

pub returns-in-None-clause-found : goal.returns-in-None-clause-found
returns-in-None-clause-found g c =
    let r = g.L.ExerciseLog.recording c.args.log.now in
    let b = c.args.bytes.now in
    subst (λ (f : Found). IsFound r c.args.place.entry f) (sym c.other_findings.ensures)
    (other_sent r c.args.place.entry c.args.place.station c.requires.sends.0 b c.requires.sends.1
    (ap (λ x. meaning x b) (sym c.exercise.ensures) ∙ sym c.meaning_view.ensures ∙ ap (option_map pdu_of) c.in-None.is))

pub returns-in-None-clause-requests : goal.returns-in-None-clause-requests
returns-in-None-clause-requests g c =
    let r = g.L.ExerciseLog.recording c.args.log.now in
    let b = c.args.bytes.now in
    requests_pass r c.args.place.entry (Sent c.args.place.station c.requires.sends.0 b) c.args.requests.now c.requires.sends.1
    (other_unasked r c.args.place.station b (ap (λ x. meaning x b) (sym c.exercise.ensures) ∙ sym c.meaning_view.ensures ∙ ap (option_map pdu_of) c.in-None.is))
    c.requires.requests

pub returns-in-None-clause-rising : goal.returns-in-None-clause-rising
returns-in-None-clause-rising g c =
    let r = g.L.ExerciseLog.recording c.args.log.now in
    let b = c.args.bytes.now in
    rising_pass r c.args.place.entry (Sent c.args.place.station c.requires.sends.0 b) c.args.rising.now c.requires.sends.1
    (other_unmarked r c.args.place.station b (ap (λ x. meaning x b) (sym c.exercise.ensures) ∙ sym c.meaning_view.ensures ∙ ap (option_map pdu_of) c.in-None.is))
    c.requires.rising
