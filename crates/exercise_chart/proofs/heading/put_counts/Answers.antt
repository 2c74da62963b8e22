use Rattle.std.proofs.Common.{◌≡◌, ℕ, ◌-◌, List, ◌++◌, length, codes, ap, string_bytes, append_assoc}
use Rattle.std.specs.Prelude.{decimal}
use Rattle.exercise_model.specs.Recording.{PlainRecording}
use Rattle.exercise_chart.specs.Frame.{FrameData}
use Rattle.exercise_chart.specs.Heading.{kept_words, blocked_words, counts_text}
use Rattle.exercise_chart.proofs.Behind.{behind}
use Rattle.exercise_chart.proofs.heading.put_counts.Goals as goal

pub returns : goal.returns
unfolding counts_text
returns g c =
    let r : PlainRecording = g.L.ExerciseLog.recording c.args.log.now in
    let f : FrameData = c.args.frame.now in
    let n : ℕ = length r.setting.stations in
    let stations : List ℕ = decimal n ++ codes " stations" in
    let steps : List ℕ =
    codes ", " ++ decimal (length r.entries) ++ codes " entries, " ++ decimal (f.rows.end - f.rows.first) ++ codes " steps from step " ++ decimal f.rows.first
    ++ codes " on" in
    let one : string_bytes c.write.new.self ≡ string_bytes c.args.text.now ++ stations =
    rw c.station_count-stations.ensures.count at c.in_ok-write.ensures.bytes in
    let two : string_bytes c.put_kept.new.text ≡ string_bytes c.write.new.self ++ kept_words f.kept n =
    rw (c.station_count-stations.ensures.count, ap (λ (v : FrameData). v.kept) c.frame.view_is) at c.in_ok-put_kept.ensures in
    let three : string_bytes c.write-2.new.self ≡ string_bytes c.put_kept.new.text ++ steps =
    simp append_assoc
    (rw (c.entry_count-entries.ensures.count, c.count-steps.ensures, ap (λ (v : FrameData). v.rows) c.frame.view_is) at c.in_ok-write-2.ensures.bytes) in
    let four : string_bytes c.put_blocked_count.new.text ≡ string_bytes c.write-2.new.self ++ blocked_words f.blocked =
    rw (ap (λ (v : FrameData). v.blocked) c.frame.view_is) at c.in_ok-put_blocked_count.ensures in
    let all : string_bytes c.put_blocked_count.new.text ≡ string_bytes c.args.text.now ++ (stations ++ kept_words f.kept n ++ steps ++ blocked_words f.blocked) =
    behind _ _ _ (stations ++ kept_words f.kept n ++ steps) (blocked_words f.blocked)
    (behind _ _ _ (stations ++ kept_words f.kept n) steps (behind _ _ _ stations (kept_words f.kept n) one two) three) four in
    simp append_assoc (simp append_assoc at all)
