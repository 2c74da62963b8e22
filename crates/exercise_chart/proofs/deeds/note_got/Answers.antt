use Rattle.exercise_model.specs.Recording.{PlainRecording}
use Rattle.exercise_review.specs.Entries.{bytes_received}
use Rattle.exercise_chart.specs.declared.deeds.StationDatagram.{StationDatagram}
use Rattle.exercise_chart.proofs.Firsts.{firsts_still, got_more, sent_gets_nothing, told_gets_nothing}
use Rattle.exercise_chart.proofs.deeds.note_got.Goals as goal

pub returns-in_ok-keep_first-in-Received : goal.returns-in_ok-keep_first-in-Received
returns-in_ok-keep_first-in-Received g c =
    let r : PlainRecording = g.L.ExerciseLog.recording c.args.log.now in
    let x : StationDatagram = record { station = c.in-Received.station; bytes = c.in-Received.bytes } in
    got_more r c.args.entry c.in-Received.stamp x c.args.firsts.now c.keep_first.new.firsts c.in-Received.ensures.entry
    c.in_ok-keep_first-in-Received.ensures c.requires.tied

pub returns-in-Sent : goal.returns-in-Sent
returns-in-Sent g c =
    let r : PlainRecording = g.L.ExerciseLog.recording c.args.log.now in
    firsts_still (bytes_received r) c.args.entry c.args.firsts.now (sent_gets_nothing r c.args.entry _ _ _ c.in-Sent.ensures.entry) c.requires.tied

pub returns-in-Told : goal.returns-in-Told
returns-in-Told g c =
    let r : PlainRecording = g.L.ExerciseLog.recording c.args.log.now in
    firsts_still (bytes_received r) c.args.entry c.args.firsts.now (told_gets_nothing r c.args.entry _ _ _ c.in-Told.ensures.entry) c.requires.tied
