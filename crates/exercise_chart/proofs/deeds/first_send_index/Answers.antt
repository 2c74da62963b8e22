use Rattle.exercise_review.specs.Entries.{bytes_sent}
use Rattle.exercise_chart.proofs.Firsts.{firsts_none}
use Rattle.exercise_chart.proofs.deeds.first_send_index.Goals as goal

pub loop-entry-init : goal.loop-entry-init
loop-entry-init g c = firsts_none (bytes_sent (g.L.ExerciseLog.recording c.args.log.now)) c.no_deeds-firsts.result c.no_deeds-firsts.ensures
