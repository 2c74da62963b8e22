use Rattle.std.proofs.Common.{◌≡◌, Some, sym, ap, ◌∙◌, arith}
use Rattle.siman_pdus.specs.declared.pdu.Pdu.{Pdu}
use Rattle.siman_pdus.specs.Reading.{pdu_of}
use Rattle.exercise_model.specs.History.{station_at}
use Rattle.exercise_model.specs.Setting.{is_from}
use Rattle.exercise_model.proofs.Offered.{sender_found}
use Rattle.exercise_findings.proofs.sender.sender_at_place.Goals as goal

pub returns-then-is_from : goal.returns-then-is_from
returns-then-is_from g c =
    let r = g.L.ExerciseLog.recording c.args.log.now in
    let p : Pdu = pdu_of c.args.pdu.now in
    let station = c.from-2.result in
    let here : station ≡ c.in-Some.place.now = c.from-2.ensures in
    let from : is_from (station_at r station).address p ≡ c.is_from.result =
    ap (λ a. is_from a p) (sym (c.address.ensures.address ∙ ap (λ o. o.address) c.station.ensures.station)) ∙ sym c.is_from.ensures in
    sender_found r c.station_count.ensures.limits p station
    (omega (arith, c.if-from-station_count.false, c.station_count.ensures.count, c.from.ensures, here))
    (from ∙ c.if-is_from.true)
    ∙ ap Some here
