use Rattle.std.proofs.Common.{◌≡◌, length, sym, ap, ◌∙◌, ◌<◌, arith}
use Rattle.siman_pdus.specs.declared.pdu.Pdu.{Pdu}
use Rattle.siman_pdus.specs.Reading.{pdu_of}
use Rattle.exercise_model.specs.Recording.{PlainRecording}
use Rattle.exercise_model.specs.History.{station_at}
use Rattle.exercise_model.specs.Setting.{is_from}
use Rattle.exercise_chart.proofs.Stations.{from_none, from_one_more, from_this, from_nobody}
use Rattle.exercise_chart.proofs.outside.is_recorded.Goals as goal

pub loop-station-init : goal.loop-station-init
loop-station-init g c = record { none = from_none c.args.scene.now.recording (pdu_of c.args.pdu.now); same = c.log-log.ensures }

pub returns-then-is_from : goal.returns-then-is_from
returns-then-is_from g c =
    let r : PlainRecording = c.args.scene.now.recording in
    let p : Pdu = pdu_of c.args.pdu.now in
    let from : is_from (station_at r c.loop-station.station).address p ≡ c.is_from.result =
    ap (λ a. is_from a p) (sym (c.address.ensures.address ∙ ap (λ o. o.address) c.station.ensures.station
    ∙ ap (λ (x : PlainRecording). (station_at x c.loop-station.station).address) c.loop-station.invariant.same)) ∙ sym c.is_from.ensures in
    let within : c.loop-station.station < length r.setting.stations =
    omega (
      arith,
      c.loop-station-test.true,
      c.station_count-station-end.ensures.count,
      c.loop-station.auto.station-end,
      ap (λ (x : PlainRecording). length x.setting.stations) c.loop-station.invariant.same,
    ) in
    sym (from_this r p c.loop-station.station within (from ∙ c.if-is_from.true))

pub loop-station-preserved : goal.loop-station-preserved
loop-station-preserved g c =
    let r : PlainRecording = c.args.scene.now.recording in
    let p : Pdu = pdu_of c.args.pdu.now in
    let from : is_from (station_at r c.loop-station.station).address p ≡ c.is_from.result =
    ap (λ a. is_from a p) (sym (c.address.ensures.address ∙ ap (λ o. o.address) c.station.ensures.station
    ∙ ap (λ (x : PlainRecording). (station_at x c.loop-station.station).address) c.loop-station.invariant.same)) ∙ sym c.is_from.ensures in
    let within : c.loop-station.station < length r.setting.stations =
    omega (
      arith,
      c.loop-station-test.true,
      c.station_count-station-end.ensures.count,
      c.loop-station.auto.station-end,
      ap (λ (x : PlainRecording). length x.setting.stations) c.loop-station.invariant.same,
    ) in
    record {
      none = from_one_more r p c.loop-station.station within c.loop-station.invariant.none (from ∙ c.if-is_from.false);
      same = c.loop-station.invariant.same;
    }

pub returns : goal.returns
returns g c =
    let r : PlainRecording = c.args.scene.now.recording in
    let p : Pdu = pdu_of c.args.pdu.now in
    let end : c.loop-station.station ≡ length r.setting.stations =
    omega (
      arith,
      c.loop-station-test.false,
      c.loop-station.auto.station-end,
      c.station_count-station-end.ensures.count,
      ap (λ (x : PlainRecording). length x.setting.stations) c.loop-station.invariant.same,
    ) in
    sym (from_nobody r p c.loop-station.station end c.loop-station.invariant.none)
