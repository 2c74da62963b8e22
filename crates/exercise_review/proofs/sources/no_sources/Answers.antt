use Rattle.std.proofs.Common.{rules, ◌≡◌, length, false, ap}
use Rattle.exercise_model.specs.Recording.{PlainRecording}
use Rattle.exercise_model.specs.Setting.{is_open}
use Rattle.exercise_review.proofs.Sourced.{sources_none}
use Rattle.exercise_review.proofs.sources.no_sources.Goals as goal

pub returns : goal.returns
returns g c whole =
    let r : PlainRecording = g.L.ExerciseLog.recording c.args.log.now in
    let closed : is_open r.setting.form ≡ false = search rules in
    sources_none r (record { first = c.new.result; last = c.new-2.result; whole = c.ne.result })
    (ap length c.new.ensures.items) (ap length c.new-2.ensures.items) closed
