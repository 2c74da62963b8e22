use Rattle.std.proofs.Common.{◌≡◌, length, true, sym, ap, ◌∙◌, arith}
use Rattle.siman_pdus.specs.declared.pdu.Pdu.{Pdu}
use Rattle.siman_pdus.specs.Reading.{pdu_of}
use Rattle.exercise_model.specs.Recording.{PlainRecording}
use Rattle.exercise_model.specs.History.{station_at}
use Rattle.exercise_conflict.specs.Clash.{is_sent_to}
use Rattle.exercise_conflict.proofs.Asking.{sender_here}
use Rattle.exercise_conflict.proofs.unasked.asker_of.Goals as goal

pub returns-then-is_sent_to : goal.returns-then-is_sent_to
returns-then-is_sent_to g c =
    let r : PlainRecording = c.args.findings.now in
    let p : Pdu = pdu_of c.args.answer.now in
    let to : is_sent_to (station_at r c.loop-station.station).address p ≡ true =
    ap (λ a. is_sent_to a p) (sym (c.address.ensures.address ∙ ap (λ o. o.address) c.station.ensures.station
    ∙ ap (λ (x : PlainRecording). (station_at x c.loop-station.station).address) c.log-in-loop-station.ensures)) ∙ sym c.is_sent_to.ensures ∙ c.if-is_sent_to.true in
    sym (sender_here r (record p { origin = p.target }) c.loop-station.station c.loop-station.invariant to
    (omega (
      arith,
      c.loop-station-test.true,
      c.station_count-station-end.ensures.count,
      c.loop-station.auto.station-end,
      ap (λ (x : PlainRecording). length x.setting.stations) c.log.ensures,
    )))
