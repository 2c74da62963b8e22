use Rattle.exercise_model.specs.Recording.{PlainRecording}
use Rattle.exercise_review.specs.Entries.{bytes_sent}
use Rattle.exercise_chart.specs.declared.deeds.StationDatagram.{StationDatagram}
use Rattle.exercise_chart.proofs.Firsts.{firsts_still, sent_more, received_sends_nothing, told_sends_nothing}
use Rattle.exercise_chart.proofs.deeds.note_sent.Goals as goal

pub returns-in_ok-keep_first-in-Sent : goal.returns-in_ok-keep_first-in-Sent
returns-in_ok-keep_first-in-Sent g c =
    let r : PlainRecording = g.L.ExerciseLog.recording c.args.log.now in
    let x : StationDatagram = record { station = c.in-Sent.station; bytes = c.in-Sent.bytes } in
    sent_more r c.args.entry c.in-Sent.stamp x c.args.firsts.now c.keep_first.new.firsts c.in-Sent.ensures.entry
    c.in_ok-keep_first-in-Sent.ensures c.requires.tied

pub returns-in-Received : goal.returns-in-Received
returns-in-Received g c =
    let r : PlainRecording = g.L.ExerciseLog.recording c.args.log.now in
    firsts_still (bytes_sent r) c.args.entry c.args.firsts.now (received_sends_nothing r c.args.entry _ _ _ c.in-Received.ensures.entry) c.requires.tied

pub returns-in-Told : goal.returns-in-Told
returns-in-Told g c =
    let r : PlainRecording = g.L.ExerciseLog.recording c.args.log.now in
    firsts_still (bytes_sent r) c.args.entry c.args.firsts.now (told_sends_nothing r c.args.entry _ _ _ c.in-Told.ensures.entry) c.requires.tied
