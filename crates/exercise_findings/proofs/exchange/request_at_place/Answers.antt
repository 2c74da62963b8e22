use Rattle.std.proofs.Common.{◌≡◌, ℕ, Option, Some, true, sym, ap, ◌∙◌}
use Rattle.std.specs.Prelude.{is_some, option_map, option_and_then}
use Rattle.siman_pdus.specs.declared.pdu.Pdu.{Pdu}
use Rattle.siman_pdus.specs.Reading.{pdu_of}
use Rattle.exercise_model.specs.History.{station_at}
use Rattle.exercise_model.specs.Exchange.{request_brought}
use Rattle.exercise_model.specs.Place.{own_event, brings_request}
use Rattle.exercise_findings.proofs.FirstEntries.{order_taken}
use Rattle.exercise_findings.proofs.Keyed.{request_by_entry}
use Rattle.exercise_findings.proofs.Meant.{order_meant}
use Rattle.exercise_findings.proofs.exchange.request_at_place.Goals as goal

pub request_brought-requires : goal.request_brought-requires
request_brought-requires g c =
    order_meant (g.L.ExerciseLog.recording c.args.log.now) c.args.before c.args.firsts.now c.requires.tied c.args.place c.in-Some.entry
    (sym c.entry_at_place.ensures ∙ c.in-Some.is)

pub returns-in-Some-request_brought-clause-request : goal.returns-in-Some-request_brought-clause-request
returns-in-Some-request_brought-clause-request g c =
    let r = g.L.ExerciseLog.recording c.args.log.now in
    let s = c.args.station in
    let p : Pdu = pdu_of c.args.answer.now in
    let brought : ℕ → Option Pdu = λ j. option_and_then (request_brought r.setting.exercise (station_at r s).address p) (own_event r s j) in
    let here : Some (pdu_of c.in-Some-request_brought.request) ≡ brought c.in-Some.entry =
    ap (option_map pdu_of) (sym c.in-Some-request_brought.is) ∙ c.request_brought.ensures
    ∙ ap (λ a. option_and_then (request_brought r.setting.exercise a p) (own_event r s c.in-Some.entry))
    (c.address-address.ensures.address ∙ ap (λ o. o.address) c.station.ensures.station ∙ ap (λ k. (station_at r k).address) c.from.ensures) in
    let brings : brings_request r s p c.in-Some.entry ≡ true = ap is_some (sym here) in
    here ∙ sym (request_by_entry r s p c.args.before
    ∙ ap (option_and_then brought) (order_taken r s c.args.before c.args.firsts.now p c.args.place c.in-Some.entry c.requires.tied
    (sym c.entry_at_place.ensures ∙ c.in-Some.is) brings))

pub returns-in-Some-request_brought-clause-entry : goal.returns-in-Some-request_brought-clause-entry
returns-in-Some-request_brought-clause-entry g c =
    let r = g.L.ExerciseLog.recording c.args.log.now in
    let s = c.args.station in
    let p : Pdu = pdu_of c.args.answer.now in
    let brought : ℕ → Option Pdu = λ j. option_and_then (request_brought r.setting.exercise (station_at r s).address p) (own_event r s j) in
    let here : Some (pdu_of c.in-Some-request_brought.request) ≡ brought c.in-Some.entry =
    ap (option_map pdu_of) (sym c.in-Some-request_brought.is) ∙ c.request_brought.ensures
    ∙ ap (λ a. option_and_then (request_brought r.setting.exercise a p) (own_event r s c.in-Some.entry))
    (c.address-address.ensures.address ∙ ap (λ o. o.address) c.station.ensures.station ∙ ap (λ k. (station_at r k).address) c.from.ensures) in
    let brings : brings_request r s p c.in-Some.entry ≡ true = ap is_some (sym here) in
    sym (order_taken r s c.args.before c.args.firsts.now p c.args.place c.in-Some.entry c.requires.tied (sym c.entry_at_place.ensures ∙ c.in-Some.is) brings)
