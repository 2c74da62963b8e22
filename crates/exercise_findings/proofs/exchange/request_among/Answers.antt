use Rattle.std.proofs.Common.{◌≡◌, ℕ, Option, None, sym, ap, ◌∙◌}
use Rattle.std.specs.Prelude.{option_map, option_and_then}
use Rattle.siman_pdus.specs.declared.pdu.Pdu.{Pdu}
use Rattle.siman_pdus.specs.Reading.{pdu_of}
use Rattle.exercise_model.specs.History.{station_at}
use Rattle.exercise_model.specs.Exchange.{request_brought}
use Rattle.exercise_model.specs.Place.{own_event}
use Rattle.exercise_findings.proofs.Keyed.{request_by_entry, taken_brings}
use Rattle.exercise_findings.proofs.Meant.{taken_meant}
use Rattle.exercise_findings.proofs.exchange.request_among.Goals as goal

pub request_brought-requires : goal.request_brought-requires
request_brought-requires g c =
    taken_meant (g.L.ExerciseLog.recording c.args.log.now) c.args.station (pdu_of c.args.answer.now) c.args.before c.in-Some.entry
    (sym c.entry_taken_up.ensures.entry ∙ c.in-Some.is)

pub returns-in_default-clause-request : goal.returns-in_default-clause-request
returns-in_default-clause-request g c =
    let r = g.L.ExerciseLog.recording c.args.log.now in
    let s = c.args.station in
    let p : Pdu = pdu_of c.args.answer.now in
    let brought : ℕ → Option Pdu = λ j. option_and_then (request_brought r.setting.exercise (station_at r s).address p) (own_event r s j) in
    sym (request_by_entry r s p c.args.before ∙ ap (option_and_then brought) (sym c.entry_taken_up.ensures.entry ∙ c.in_default.is))

pub returns-in-Some-request_brought-clause-request : goal.returns-in-Some-request_brought-clause-request
returns-in-Some-request_brought-clause-request g c =
    let r = g.L.ExerciseLog.recording c.args.log.now in
    let s = c.args.station in
    let p : Pdu = pdu_of c.args.answer.now in
    let brought : ℕ → Option Pdu = λ j. option_and_then (request_brought r.setting.exercise (station_at r s).address p) (own_event r s j) in
    ap (option_map pdu_of) (sym c.in-Some-request_brought.is) ∙ c.request_brought.ensures
    ∙ ap (λ a. option_and_then (request_brought r.setting.exercise a p) (own_event r s c.in-Some.entry))
    (c.address-address.ensures.address ∙ ap (λ o. o.address) c.station.ensures.station ∙ ap (λ k. (station_at r k).address) c.from.ensures)
    ∙ sym (request_by_entry r s p c.args.before ∙ ap (option_and_then brought) (sym c.entry_taken_up.ensures.entry ∙ c.in-Some.is))

pub returns-in-None-clause-request : goal.returns-in-None-clause-request
returns-in-None-clause-request g c =
    let r = g.L.ExerciseLog.recording c.args.log.now in
    let s = c.args.station in
    let p : Pdu = pdu_of c.args.answer.now in
    let brought : ℕ → Option Pdu = λ j. option_and_then (request_brought r.setting.exercise (station_at r s).address p) (own_event r s j) in
    ap (option_map pdu_of) (sym c.in-None.is) ∙ c.request_brought.ensures
    ∙ ap (λ a. option_and_then (request_brought r.setting.exercise a p) (own_event r s c.in-Some.entry))
    (c.address-address.ensures.address ∙ ap (λ o. o.address) c.station.ensures.station ∙ ap (λ k. (station_at r k).address) c.from.ensures)
    ∙ sym (request_by_entry r s p c.args.before ∙ ap (option_and_then brought) (sym c.entry_taken_up.ensures.entry ∙ c.in-Some.is))

pub returns-in-None-clause-entry : goal.returns-in-None-clause-entry
returns-in-None-clause-entry g c =
    let r = g.L.ExerciseLog.recording c.args.log.now in
    let s = c.args.station in
    let p : Pdu = pdu_of c.args.answer.now in
    let nothing : option_and_then (request_brought r.setting.exercise (station_at r s).address p) (own_event r s c.in-Some.entry) ≡ None =
    sym (ap (option_map pdu_of) (sym c.in-None.is) ∙ c.request_brought.ensures
    ∙ ap (λ a. option_and_then (request_brought r.setting.exercise a p) (own_event r s c.in-Some.entry))
    (c.address-address.ensures.address ∙ ap (λ o. o.address) c.station.ensures.station ∙ ap (λ k. (station_at r k).address) c.from.ensures)) in
    absurd (taken_brings r s p c.args.before c.in-Some.entry (sym c.entry_taken_up.ensures.entry ∙ c.in-Some.is) nothing)
