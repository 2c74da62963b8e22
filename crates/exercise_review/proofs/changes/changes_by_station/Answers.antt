use Rattle.std.proofs.Common.{length, ap, ◌∙◌}
use Rattle.exercise_model.specs.Recording.{PlainRecording}
use Rattle.exercise_review.proofs.Courses.{changes_start}
use Rattle.exercise_review.proofs.changes.changes_by_station.Goals as goal

pub loop-entry-init : goal.loop-entry-init
loop-entry-init g c =
    changes_start c.args.findings.now c.in_ok-all.all.items
    (c.in_ok-all.ensures.count ∙ c.station_count.ensures.count ∙ ap (λ (x : PlainRecording). length x.setting.stations) c.log.ensures) c.in_ok-all.ensures.each
