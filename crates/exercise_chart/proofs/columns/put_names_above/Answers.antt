-- The names, between the beginning and the end of their group.
use Rattle.std.proofs.Common.{◌++◌, codes}
use Rattle.exercise_model.specs.Recording.{PlainRecording}
use Rattle.exercise_chart.specs.Columns.{names_begin, names_at, names_above}
use Rattle.exercise_chart.specs.Frame.{names_y}
use Rattle.exercise_chart.proofs.Behind.{behind}
use Rattle.exercise_chart.proofs.columns.put_names_above.Goals as goal

pub returns : goal.returns
unfolding names_above
returns g c =
    let r : PlainRecording = g.L.ExerciseLog.recording c.args.log.now in
    let here = rw c.names_y.ensures at c.in_ok-put_names_at.ensures in
    behind _ _ _ (names_begin c.args.block ++ names_at c.args.frame.now r (names_y c.args.block)) (codes "</g>\n")
    (behind _ _ _ (names_begin c.args.block) (names_at c.args.frame.now r (names_y c.args.block)) c.in_ok-begin_names.ensures here) c.in_ok-push_str.ensures.bytes
