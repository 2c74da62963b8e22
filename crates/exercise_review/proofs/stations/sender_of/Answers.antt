use Rattle.std.proofs.Common.{◌≡◌, length, sym, ap, ◌∙◌, arith}
use Rattle.std.specs.Prelude.{is_some}
use Rattle.siman_pdus.specs.declared.pdu.Pdu.{Pdu}
use Rattle.siman_pdus.specs.Reading.{pdu_of}
use Rattle.exercise_model.specs.Recording.{PlainRecording}
use Rattle.exercise_model.specs.History.{station_at}
use Rattle.exercise_model.specs.Setting.{is_from}
use Rattle.exercise_review.proofs.Numbers.{first_none, first_still}
use Rattle.exercise_findings.proofs.Offered.{sender_here, no_sender, recorded_sender}
use Rattle.exercise_review.proofs.stations.sender_of.Goals as goal

pub loop-station-init : goal.loop-station-init
loop-station-init g c = record { none = first_none _; same = c.log-log.ensures }

pub returns-then-is_from-clause-sender : goal.returns-then-is_from-clause-sender
returns-then-is_from-clause-sender g c =
    let r : PlainRecording = c.args.findings.now in
    let p : Pdu = pdu_of c.args.pdu.now in
    let from : is_from (station_at r c.loop-station.station).address p ≡ c.is_from.result =
    ap (λ a. is_from a p) (sym (c.address.ensures.address ∙ ap (λ o. o.address) c.station.ensures.station
    ∙ ap (λ (x : PlainRecording). (station_at x c.loop-station.station).address) c.loop-station.invariant.same)) ∙ sym c.is_from.ensures in
    sym (sender_here r p c.loop-station.station c.loop-station.invariant.none (from ∙ c.if-is_from.true)
    (omega (
      arith,
      c.loop-station-test.true,
      c.station_count-station-end.ensures.count,
      c.loop-station.auto.station-end,
      ap (λ (x : PlainRecording). length x.setting.stations) c.loop-station.invariant.same,
    )))

pub returns-then-is_from-clause-recorded : goal.returns-then-is_from-clause-recorded
returns-then-is_from-clause-recorded g c =
    let r : PlainRecording = c.args.findings.now in
    let p : Pdu = pdu_of c.args.pdu.now in
    ap is_some (returns-then-is_from-clause-sender g c) ∙ recorded_sender r p

pub loop-station-preserved : goal.loop-station-preserved
loop-station-preserved g c =
    let r : PlainRecording = c.args.findings.now in
    let p : Pdu = pdu_of c.args.pdu.now in
    let from : is_from (station_at r c.loop-station.station).address p ≡ c.is_from.result =
    ap (λ a. is_from a p) (sym (c.address.ensures.address ∙ ap (λ o. o.address) c.station.ensures.station
    ∙ ap (λ (x : PlainRecording). (station_at x c.loop-station.station).address) c.loop-station.invariant.same)) ∙ sym c.is_from.ensures in
    record {
      none = first_still _ c.loop-station.station c.loop-station.invariant.none (from ∙ c.if-is_from.false);
      same = c.loop-station.invariant.same;
    }

pub returns-clause-sender : goal.returns-clause-sender
returns-clause-sender g c =
    let r : PlainRecording = c.args.findings.now in
    let p : Pdu = pdu_of c.args.pdu.now in
    let end : c.loop-station.station ≡ length r.setting.stations =
    omega (
      arith,
      c.loop-station-test.false,
      c.loop-station.auto.station-end,
      c.station_count-station-end.ensures.count,
      ap (λ (x : PlainRecording). length x.setting.stations) c.loop-station.invariant.same,
    ) in
    sym (no_sender r p c.loop-station.station c.loop-station.invariant.none end)

pub returns-clause-recorded : goal.returns-clause-recorded
returns-clause-recorded g c =
    let r : PlainRecording = c.args.findings.now in
    let p : Pdu = pdu_of c.args.pdu.now in
    ap is_some (returns-clause-sender g c) ∙ recorded_sender r p
