use Rattle.std.proofs.Common.{◌≡◌, ℕ, Option, Some, None, sym, ap, ◌∙◌}
use Rattle.std.specs.Prelude.{option_map, option_and_then}
use Rattle.dis_records.specs.Entity.{site_application_of}
use Rattle.siman_pdus.specs.declared.pdu.Pdu.{Pdu}
use Rattle.siman_pdus.specs.Reading.{pdu_of}
use Rattle.siman_pdus.specs.Role.{request_id_of}
use Rattle.exercise_model.specs.Recording.{PlainRecording}
use Rattle.exercise_review.specs.Entries.{pdu_at}
use Rattle.exercise_review.specs.Span.{request_behind}
use Rattle.exercise_review.proofs.Behind.{asked_by, nothing_behind, taking_means}
use Rattle.exercise_review.proofs.span.asked_behind.Goals as goal

pub returns-in-Some-pdu_in_log-clause-by : goal.returns-in-Some-pdu_in_log-clause-by
returns-in-Some-pdu_in_log-clause-by g c =
    let r : PlainRecording = c.args.findings.now in
    let i : ℕ = c.in-Some.entry in
    let p : Pdu = pdu_of c.in-Some-pdu_in_log.answer in
    let meant : pdu_at r i ≡ Some p =
    ap (λ (x : PlainRecording). pdu_at x i) (sym c.log.ensures) ∙ sym c.pdu_in_log.ensures ∙ ap (option_map pdu_of) c.in-Some-pdu_in_log.is in
    ap Some c.site_application.ensures
    ∙ (asked_by r i c.in-Some-pair.field-0 p (sym c.pair.ensures ∙ c.in-Some-pair.is) meant).by
    ∙ sym (ap (λ (o : Option ℕ). option_map (λ (q : Pdu). site_application_of q.origin) (option_and_then (request_behind r) o)) c.in-Some.is)

pub returns-in-Some-pdu_in_log-clause-request : goal.returns-in-Some-pdu_in_log-clause-request
returns-in-Some-pdu_in_log-clause-request g c =
    let r : PlainRecording = c.args.findings.now in
    let i : ℕ = c.in-Some.entry in
    let p : Pdu = pdu_of c.in-Some-pdu_in_log.answer in
    let meant : pdu_at r i ≡ Some p =
    ap (λ (x : PlainRecording). pdu_at x i) (sym c.log.ensures) ∙ sym c.pdu_in_log.ensures ∙ ap (option_map pdu_of) c.in-Some-pdu_in_log.is in
    c.request_id.ensures
    ∙ (asked_by r i c.in-Some-pair.field-0 p (sym c.pair.ensures ∙ c.in-Some-pair.is) meant).request
    ∙ sym (ap (λ (o : Option ℕ). option_and_then (λ (q : Pdu). request_id_of q.body) (option_and_then (request_behind r) o)) c.in-Some.is)

pub returns-in-None-pdu_in_log-clause-by : goal.returns-in-None-pdu_in_log-clause-by
returns-in-None-pdu_in_log-clause-by g c =
    let r : PlainRecording = c.args.findings.now in
    let i : ℕ = c.in-Some.entry in
    let none : pdu_at r i ≡ None =
    ap (λ (x : PlainRecording). pdu_at x i) (sym c.log.ensures) ∙ sym c.pdu_in_log.ensures ∙ ap (option_map pdu_of) c.in-None-pdu_in_log.is in
    taking_means r i c.in-Some-pair.field-0 (sym c.pair.ensures ∙ c.in-Some-pair.is) none

pub returns-in-None-pdu_in_log-clause-request : goal.returns-in-None-pdu_in_log-clause-request
returns-in-None-pdu_in_log-clause-request g c =
    let r : PlainRecording = c.args.findings.now in
    let i : ℕ = c.in-Some.entry in
    let none : pdu_at r i ≡ None =
    ap (λ (x : PlainRecording). pdu_at x i) (sym c.log.ensures) ∙ sym c.pdu_in_log.ensures ∙ ap (option_map pdu_of) c.in-None-pdu_in_log.is in
    taking_means r i c.in-Some-pair.field-0 (sym c.pair.ensures ∙ c.in-Some-pair.is) none

pub returns-in-None-clause-by : goal.returns-in-None-clause-by
returns-in-None-clause-by g c =
    let r : PlainRecording = c.args.findings.now in
    sym (ap (λ (o : Option ℕ). option_map (λ (q : Pdu). site_application_of q.origin) (option_and_then (request_behind r) o)) c.in-Some.is
    ∙ ap (option_map (λ (q : Pdu). site_application_of q.origin)) (nothing_behind r c.in-Some.entry (sym c.pair.ensures ∙ c.in-None.is)))

pub returns-in-None-clause-request : goal.returns-in-None-clause-request
returns-in-None-clause-request g c =
    let r : PlainRecording = c.args.findings.now in
    sym (ap (λ (o : Option ℕ). option_and_then (λ (q : Pdu). request_id_of q.body) (option_and_then (request_behind r) o)) c.in-Some.is
    ∙ ap (option_and_then (λ (q : Pdu). request_id_of q.body)) (nothing_behind r c.in-Some.entry (sym c.pair.ensures ∙ c.in-None.is)))
