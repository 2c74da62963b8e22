use Rattle.std.proofs.Common.{◌++◌, codes}
use Rattle.std.specs.List.{flat_map}
use Rattle.exercise_model.specs.Recording.{PlainRecording}
use Rattle.exercise_chart.specs.Frame.{FrameData}
use Rattle.exercise_chart.specs.Rows.{row_text, blocked_rows_text, rows_text}
use Rattle.exercise_chart.proofs.Behind.{behind, all_between}
use Rattle.exercise_chart.proofs.rows.put_rows.Goals as goal

pub returns : goal.returns
unfolding rows_text
returns g c =
    let r : PlainRecording = g.L.ExerciseLog.recording c.args.log.now in
    let f : FrameData = c.args.frame.now in
    behind _ _ _ (codes "<g>\n" ++ flat_map (row_text f r) c.args.rows.now ++ blocked_rows_text f r c.args.blocked.now) (codes "</g>\n")
    (all_between (row_text f r) c.args.rows.now c.loop-row.row-index _ _ _ _ _ _ c.loop-row-test.false c.in_ok-push_str.ensures.bytes c.loop-row.invariant
    c.in_ok-put_blocked_rows.ensures)
    c.in_ok-push_str-2.ensures.bytes
