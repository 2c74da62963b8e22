use Rattle.std.proofs.Common.{◌≡◌, length, true, sym, ap, ◌∙◌, arith}
use Rattle.siman_pdus.specs.declared.pdu.Pdu.{Pdu}
use Rattle.siman_pdus.specs.Reading.{pdu_of}
use Rattle.exercise_model.specs.Recording.{PlainRecording}
use Rattle.exercise_model.specs.History.{station_at}
use Rattle.exercise_model.specs.Setting.{is_from}
use Rattle.exercise_conflict.proofs.Asking.{sender_here}
use Rattle.exercise_conflict.proofs.near.sender_of.Goals as goal
use Rattle.exercise_conflict.proofs.Steps.{question_steps}
use Rattle.exercise_model.specs.Account.{sender_of}

pub returns-then-is_from : goal.returns-then-is_from
returns-then-is_from g c =
    let r : PlainRecording = c.args.findings.now in
    let p : Pdu = pdu_of c.args.pdu.now in
    let from : is_from (station_at r c.loop-station.station).address p ≡ true =
    ap (λ a. is_from a p) (sym (c.address.ensures.address ∙ ap (λ o. o.address) c.station.ensures.station
    ∙ ap (λ (x : PlainRecording). (station_at x c.loop-station.station).address) c.log-in-loop-station.ensures)) ∙ sym c.is_from.ensures ∙ c.if-is_from.true in
    sym (sender_here r p c.loop-station.station c.loop-station.invariant from
    (omega (
      arith,
      c.loop-station-test.true,
      c.station_count-station-end.ensures.count,
      c.loop-station.auto.station-end,
      ap (λ (x : PlainRecording). length x.setting.stations) c.log.ensures,
    )))

pub loop-station-init : goal.loop-station-init
unfolding sender_of
loop-station-init g c = grind (arith, question_steps)

pub loop-station-preserved : goal.loop-station-preserved
unfolding sender_of
loop-station-preserved g c = grind (arith, question_steps)
