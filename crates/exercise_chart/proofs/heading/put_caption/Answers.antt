use Rattle.std.proofs.Common.{◌++◌}
use Rattle.exercise_model.specs.Recording.{PlainRecording}
use Rattle.exercise_chart.specs.Heading.{caption_begin, name_text, counts_text, caption_text}
use Rattle.exercise_chart.proofs.Behind.{behind}
use Rattle.exercise_chart.proofs.heading.put_caption.Goals as goal

pub returns : goal.returns
unfolding caption_text
returns g c =
    let r : PlainRecording = g.L.ExerciseLog.recording c.args.log.now in
    behind _ _ _ (caption_begin ++ name_text r ++ counts_text c.args.frame.now r) _
    (behind _ _ _ (caption_begin ++ name_text r) (counts_text c.args.frame.now r)
    (behind _ _ _ caption_begin (name_text r) c.in_ok-push_str.ensures.bytes (rw c.exercise-exercise.ensures at c.in_ok-write.ensures.bytes))
    c.in_ok-put_counts.ensures)
    c.in_ok-push_str-2.ensures.bytes
