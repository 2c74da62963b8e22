use Rattle.std.proofs.Common.{◌≡◌, true, false, Some, is_some}
use Rattle.siman_stations.specs.StationTurn.{reply_due}
use Rattle.siman_stations.proofs.Replies.{none_recorded, nothing_said, unsent}
use Rattle.siman_stations.proofs.turn.answer.Goals as goal
use Rattle.std.proofs.Common.{arith}
use Rattle.std.proofs.lemmas.Grind.{elements}

pub returns-in-Err-record_sent-clause-err : goal.returns-in-Err-record_sent-clause-err
returns-in-Err-record_sent-clause-err g c =
    let h : true ≡ is_some (reply_due c.args.application.now (Some c.args.pdu.now) c.args.moment.stamp) = cc (c.in-Ok-true.ensures.due, c.in-Ok-true.field-0-test) in
    unsent g.R.Recorder.refuses c.args.station c.args.moment c.args.pdu.now c.in-Err-record_sent.fault c.args.recorder.now c.record_sent.new.self c.args.application.now c.reply.new.application c.reply.new.text.items c.deref.result.now c.deref.ensures.value h c.in-Ok-true.ensures.text (c.in-Ok-true.ensures.size c.in-Ok-true.field-0-test) c.in-Err-record_sent.ensures.err c.in-Ok-true.ensures.leaves

pub returns-in-Ok-false-clause-entries : goal.returns-in-Ok-false-clause-entries
returns-in-Ok-false-clause-entries g c =
    let h : false ≡ is_some (reply_due c.args.application.now (Some c.args.pdu.now) c.args.moment.stamp) = cc (c.in-Ok-false.ensures.due, c.in-Ok-false.field-0-test) in
    none_recorded g.R.Recorder.records c.args.station c.args.moment.now (reply_due c.args.application.now (Some c.args.pdu.now) c.args.moment.stamp) c.args.recorder.now h

pub returns-in-Ok-false-clause-text : goal.returns-in-Ok-false-clause-text
returns-in-Ok-false-clause-text g c =
    let h : false ≡ is_some (reply_due c.args.application.now (Some c.args.pdu.now) c.args.moment.stamp) = cc (c.in-Ok-false.ensures.due, c.in-Ok-false.field-0-test) in
    nothing_said _ (reply_due c.args.application.now (Some c.args.pdu.now) c.args.moment.stamp) h

pub returns-in-Ok-clause-entries : goal.returns-in-Ok-clause-entries
returns-in-Ok-clause-entries g c = grind (arith, elements)

pub returns-in-Ok-clause-text : goal.returns-in-Ok-clause-text
returns-in-Ok-clause-text g c = grind (arith, elements)
