use Rattle.std.proofs.Common.{rules, ◌≡◌, false, ◌∙◌, arith}
use Rattle.exercise_model.specs.Recording.{PlainRecording}
use Rattle.exercise_model.specs.Setting.{is_open}
use Rattle.exercise_review.specs.Register.{key_at}
use Rattle.exercise_review.proofs.Moved.{request_key}
use Rattle.exercise_review.proofs.keys.answer_index_key.Goals as goal

pub returns : goal.returns
returns g c =
    let r : PlainRecording = c.args.findings.now in
    let closed : is_open r.setting.form ≡ false = search rules in
    c.indexed_key_place.ensures (key_at r) c.args.entry c.requires.tied (omega arith) ∙ request_key r c.args.station c.args.taken c.requires.received closed
