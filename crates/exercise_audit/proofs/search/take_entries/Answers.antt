use Rattle.std.proofs.Common.{◌≡◌, length, sym, ap, ◌∙◌}
use Rattle.exercise_model.specs.Recording.{PlainRecording}
use Rattle.exercise_check.specs.Course.{CourseData}
use Rattle.exercise_audit.proofs.InOrder.{all_done}
use Rattle.exercise_audit.proofs.search.take_entries.Goals as goal

pub returns-then-len-entry_count-clause-held : goal.returns-then-len-entry_count-clause-held
returns-then-len-entry_count-clause-held g c =
    let v = c.take_first_entries.new.course in
    let r = g.L.ExerciseLog.recording c.args.log.now in
    let same : v.recording ≡ r = c.take_first_entries.ensures.recording ∙ ap (λ (c : CourseData). c.recording) c.requires in
    let count : length v.steps ≡ length v.recording.entries =
    sym c.len.ensures.steps ∙ c.if-len-entry_count.true ∙ c.entry_count.ensures.count ∙ ap (λ (r : PlainRecording). length r.entries) (sym same) in
    λ s l. all_done v c.len.ensures.course count s
