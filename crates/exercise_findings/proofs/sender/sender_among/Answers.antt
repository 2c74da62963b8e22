use Rattle.std.proofs.Common.{◌≡◌, length, sym, ap, ◌∙◌, arith}
use Rattle.std.specs.Prelude.{is_some}
use Rattle.siman_pdus.specs.declared.pdu.Pdu.{Pdu}
use Rattle.siman_pdus.specs.Reading.{pdu_of}
use Rattle.exercise_model.specs.History.{station_at}
use Rattle.exercise_model.specs.Setting.{is_from}
use Rattle.exercise_findings.proofs.Recorded.{sender_here, no_sender, no_first_yet, no_first_still, recorded_sender}
use Rattle.exercise_findings.proofs.sender.sender_among.Goals as goal

pub loop-station-init : goal.loop-station-init
loop-station-init g c = no_first_yet _

pub returns-then-is_from-clause-sender : goal.returns-then-is_from-clause-sender
returns-then-is_from-clause-sender g c =
    let r = g.L.ExerciseLog.recording c.args.log.now in
    let p : Pdu = pdu_of c.args.pdu.now in
    let from : is_from (station_at r c.loop-station.station).address p ≡ c.is_from.result =
    ap (λ a. is_from a p) (sym (c.address.ensures.address ∙ ap (λ o. o.address) c.station.ensures.station)) ∙ sym c.is_from.ensures in
    sym (sender_here r p c.loop-station.station c.loop-station.invariant (from ∙ c.if-is_from.true)
    (omega (arith, c.loop-station-test.true, c.station_count-station-end.ensures.count, c.loop-station.auto.station-end)))

pub returns-then-is_from-clause-recorded : goal.returns-then-is_from-clause-recorded
returns-then-is_from-clause-recorded g c =
    let r = g.L.ExerciseLog.recording c.args.log.now in
    let p : Pdu = pdu_of c.args.pdu.now in
    ap is_some (returns-then-is_from-clause-sender g c) ∙ recorded_sender r p

pub loop-station-preserved : goal.loop-station-preserved
loop-station-preserved g c =
    let r = g.L.ExerciseLog.recording c.args.log.now in
    let p : Pdu = pdu_of c.args.pdu.now in
    let from : is_from (station_at r c.loop-station.station).address p ≡ c.is_from.result =
    ap (λ a. is_from a p) (sym (c.address.ensures.address ∙ ap (λ o. o.address) c.station.ensures.station)) ∙ sym c.is_from.ensures in
    no_first_still _ c.loop-station.station c.loop-station.invariant (from ∙ c.if-is_from.false)

pub returns-clause-sender : goal.returns-clause-sender
returns-clause-sender g c =
    let r = g.L.ExerciseLog.recording c.args.log.now in
    let p : Pdu = pdu_of c.args.pdu.now in
    let end : c.loop-station.station ≡ length r.setting.stations =
    omega (arith, c.loop-station-test.false, c.loop-station.auto.station-end, c.station_count-station-end.ensures.count) in
    sym (no_sender r p c.loop-station.station c.loop-station.invariant end)

pub returns-clause-recorded : goal.returns-clause-recorded
returns-clause-recorded g c =
    let r = g.L.ExerciseLog.recording c.args.log.now in
    let p : Pdu = pdu_of c.args.pdu.now in
    ap is_some (returns-clause-sender g c) ∙ recorded_sender r p
