use Rattle.std.proofs.Common.{sym, ap, ◌∙◌, false}
use Rattle.std.specs.Prelude.{option_map}
use Rattle.std.specs.Option.{option_map_or}
use Rattle.siman_pdus.specs.declared.pdu.Pdu.{Pdu}
use Rattle.siman_pdus.specs.Reading.{pdu_of}
use Rattle.exercise_model.specs.Recording.{PlainRecording}
use Rattle.exercise_model.specs.History.{station_at}
use Rattle.exercise_model.specs.Exchange.{is_asked}
use Rattle.exercise_conflict.proofs.Asking.{brings_is}
use Rattle.exercise_conflict.proofs.unasked.BringsNumberTest.passes.Goals as goal

pub returns-in-Some : goal.returns-in-Some
returns-in-Some g c =
    let q = c.args.self.now in
    let r : PlainRecording = q.findings.now in
    let p : Pdu = pdu_of q.answer.now in
    c.is_asked.ensures
    ∙ ap (λ a. is_asked a p (pdu_of c.in-Some.request)) q.own
    ∙ sym (brings_is r q.station p c.args.entry
    ∙ ap (λ o. option_map_or (is_asked (station_at r q.station).address p) o false) (sym c.got_pdu.ensures ∙ ap (option_map pdu_of) c.in-Some.is))

pub returns-in-None : goal.returns-in-None
returns-in-None g c =
    let q = c.args.self.now in
    let r : PlainRecording = q.findings.now in
    let p : Pdu = pdu_of q.answer.now in
    sym (brings_is r q.station p c.args.entry
    ∙ ap (λ o. option_map_or (is_asked (station_at r q.station).address p) o false) (sym c.got_pdu.ensures ∙ ap (option_map pdu_of) c.in-None.is))
