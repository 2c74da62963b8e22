use Rattle.std.proofs.Common.{◌≡◌, length, Some, None, true, sym, ap, ◌∙◌}
use Rattle.std.specs.Prelude.{if◌then◌else◌}
use Rattle.siman_pdus.specs.declared.pdu.Pdu.{Pdu}
use Rattle.siman_pdus.specs.Reading.{pdu_of}
use Rattle.siman_pdus.specs.Role.{request_id_of}
use Rattle.exercise_model.specs.Recording.{PlainRecording}
use Rattle.exercise_model.specs.Exchange.{is_answer_body}
use Rattle.exercise_model.specs.Place.{entry_taken_up}
use Rattle.exercise_conflict.proofs.Tables.{asked_is, unasked_is}
use Rattle.exercise_conflict.proofs.asks.place_of.Goals as goal

pub returns-in-Some : goal.returns-in-Some
returns-in-Some g c =
    let r : PlainRecording = c.args.findings.now in
    let p : Pdu = pdu_of c.args.pdu.now in
    let answer : is_answer_body p.body ≡ true = sym c.is_answer.ensures ∙ c.if-not-is_answer.false in
    let id : request_id_of p.body ≡ Some c.in-Some.request = sym c.request_id.ensures ∙ c.in-Some.is in
    c.first_under.ensures
    ∙ asked_is r c.args.station p c.in-Some.request c.args.asks.now id c.requires
    ∙ sym (ap (λ b. if b then entry_taken_up r c.args.station p (length r.entries) else None) answer)

pub returns-in-None : goal.returns-in-None
returns-in-None g c =
    let r : PlainRecording = c.args.findings.now in
    let p : Pdu = pdu_of c.args.pdu.now in
    let answer : is_answer_body p.body ≡ true = sym c.is_answer.ensures ∙ c.if-not-is_answer.false in
    let id : request_id_of p.body ≡ None = sym c.request_id.ensures ∙ c.in-None.is in
    sym (ap (λ b. if b then entry_taken_up r c.args.station p (length r.entries) else None) answer ∙ unasked_is r c.args.station (length r.entries) p id)
