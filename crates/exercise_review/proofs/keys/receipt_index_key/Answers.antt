use Rattle.std.proofs.Common.{◌≡◌, ℕ, List, Some, None, sym, ap, ◌∙◌}
use Rattle.std.specs.Prelude.{option_map, option_and_then}
use Rattle.siman_pdus.specs.Reading.{pdu_of}
use Rattle.exercise_model.specs.Meaning.{meaning}
use Rattle.exercise_model.specs.Recording.{PlainRecording}
use Rattle.exercise_review.specs.Register.{receipt_key}
use Rattle.exercise_review.proofs.Moved.{key_got}
use Rattle.exercise_review.proofs.keys.receipt_index_key.Goals as goal

pub returns-in-Some-meaning_view : goal.returns-in-Some-meaning_view
returns-in-Some-meaning_view g c =
    let r : PlainRecording = c.args.findings.now in
    let s : ℕ = c.args.station in
    let b : List ℕ = c.args.bytes.now in
    let exercise : c.exercise.result ≡ r.setting.exercise = c.exercise.ensures ∙ ap (λ (x : PlainRecording). x.setting.exercise) c.log-log.ensures in
    let form : c.form.result ≡ r.setting.form = c.form.ensures ∙ ap (λ (x : PlainRecording). x.setting.form) c.log-log.ensures in
    let means : meaning r.setting.exercise b ≡ Some (pdu_of c.in-Some-meaning_view.pdu) =
    ap (λ x. meaning x b) (sym exercise) ∙ sym c.meaning_view.ensures ∙ ap (option_map pdu_of) c.in-Some-meaning_view.is in
    c.index_key_of.ensures c.args.ways.now.keys ∙ c.receipt_key.ensures ∙ ap (λ f. receipt_key f s (pdu_of c.in-Some-meaning_view.pdu)) form
    ∙ sym (key_got r s c.args.entry b c.requires.received ∙ ap (option_and_then (receipt_key r.setting.form s)) means)

pub returns-in-None : goal.returns-in-None
returns-in-None g c =
    let r : PlainRecording = c.args.findings.now in
    let s : ℕ = c.args.station in
    let b : List ℕ = c.args.bytes.now in
    let exercise : c.exercise.result ≡ r.setting.exercise = c.exercise.ensures ∙ ap (λ (x : PlainRecording). x.setting.exercise) c.log-log.ensures in
    let other : meaning r.setting.exercise b ≡ None =
    ap (λ x. meaning x b) (sym exercise) ∙ sym c.meaning_view.ensures ∙ ap (option_map pdu_of) c.in-None.is in
    sym (key_got r s c.args.entry b c.requires.received ∙ ap (option_and_then (receipt_key r.setting.form s)) other)
