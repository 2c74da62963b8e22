use Rattle.std.proofs.Common.{◌≡◌, ℕ, arith, length, sym, ap, ◌∙◌, subst}
use Rattle.exercise_model.specs.Recording.{PlainRecording}
use Rattle.exercise_check.specs.Course.{CourseData, so_far}
use Rattle.exercise_audit.specs.Audit.{AreBlocks}
use Rattle.exercise_audit.specs.Longest.{IsLongest}
use Rattle.exercise_audit.proofs.Held.{longest_from_held}
use Rattle.exercise_audit.proofs.longest.blocks_at_end.Goals as goal

pub blocks-requires : goal.blocks-requires
blocks-requires g c = λ s l.
    let v = c.take_entries.new.course in
    let same : v.recording ≡ g.L.ExerciseLog.recording c.args.log.now = c.take_entries.ensures.recording ∙ ap (λ (c : CourseData). c.recording) c.requires in
    let stations : c.station_count-stations.result ≡ length v.recording.setting.stations = c.station_count-stations.ensures.count ∙ ap
    (λ (r : PlainRecording). length r.setting.stations) (sym same) in
    c.in_ok-take_entries.ensures.held s (omega (arith, l, stations))

pub returns-clause-longest : goal.returns-clause-longest
returns-clause-longest g c =
    let v = c.take_entries.new.course in
    let blocks = c.in_ok-blocks.blocks.items in
    let same : v.recording ≡ g.L.ExerciseLog.recording c.args.log.now = c.take_entries.ensures.recording ∙ ap (λ (c : CourseData). c.recording) c.requires in
    let stations : c.station_count-stations.result ≡ length v.recording.setting.stations = c.station_count-stations.ensures.count ∙ ap
    (λ (r : PlainRecording). length r.setting.stations) (sym same) in
    let are = subst (λ (n : ℕ). AreBlocks v.recording (so_far v) n blocks) stations c.in_ok-blocks.ensures.blocks in
    let longest = longest_from_held v c.in_ok-take_entries.ensures.course c.in_ok-take_entries.ensures.timely c.in_ok-take_entries.ensures.held blocks are in
    subst (λ (w : CourseData). IsLongest (g.L.ExerciseLog.recording c.args.log.now) w.steps blocks) (sym c.blocks-2.ensures.same)
    (subst (λ r. IsLongest r v.steps blocks) same longest)
