use Rattle.std.proofs.Common.{◌≡◌, ℕ, List, Some, None, sym, ap, ◌∙◌}
use Rattle.std.specs.Prelude.{option_map, option_and_then}
use Rattle.siman_pdus.specs.Reading.{pdu_of}
use Rattle.exercise_model.specs.Meaning.{meaning}
use Rattle.exercise_model.specs.Recording.{PlainRecording}
use Rattle.exercise_review.specs.Register.{order_key, sent_key}
use Rattle.exercise_review.proofs.Moved.{key_of_sent}
use Rattle.exercise_review.proofs.Paired.{answer_kept, alone_kept, paired_got}
use Rattle.exercise_review.proofs.keys.send_index_key.Goals as goal

pub answer_index_key-requires-clause-received : goal.answer_index_key-requires-clause-received
answer_index_key-requires-clause-received g c =
    paired_got c.args.findings.now c.args.station c.args.entry c.in-Some.taken c.args.bytes.now c.requires.sent (sym c.pair.ensures ∙ c.in-Some.is)

pub returns-in-Some : goal.returns-in-Some
returns-in-Some g c =
    let r : PlainRecording = c.args.findings.now in
    c.answer_index_key.ensures
    ∙ sym (answer_kept r c.args.station c.args.entry c.in-Some.taken c.args.bytes.now c.requires.sent (sym c.pair.ensures ∙ c.in-Some.is))
    ∙ sym (key_of_sent r c.args.station c.args.entry c.args.bytes.now c.requires.sent)

pub returns-in-Some-meaning_view : goal.returns-in-Some-meaning_view
returns-in-Some-meaning_view g c =
    let r : PlainRecording = c.args.findings.now in
    let s : ℕ = c.args.station in
    let b : List ℕ = c.args.bytes.now in
    let exercise : c.exercise.result ≡ r.setting.exercise = c.exercise.ensures ∙ ap (λ (x : PlainRecording). x.setting.exercise) c.log.ensures in
    let means : meaning r.setting.exercise b ≡ Some (pdu_of c.in-Some-meaning_view.pdu) =
    ap (λ x. meaning x b) (sym exercise) ∙ sym c.meaning_view.ensures ∙ ap (option_map pdu_of) c.in-Some-meaning_view.is in
    c.index_key_of.ensures c.args.ways.now.keys ∙ c.order_key.ensures
    ∙ sym (alone_kept r s c.args.entry (meaning r.setting.exercise b) (sym c.pair.ensures ∙ c.in_default.is) ∙ ap (option_and_then (order_key s)) means)
    ∙ sym (key_of_sent r s c.args.entry b c.requires.sent)

pub returns-in-None : goal.returns-in-None
returns-in-None g c =
    let r : PlainRecording = c.args.findings.now in
    let s : ℕ = c.args.station in
    let b : List ℕ = c.args.bytes.now in
    let exercise : c.exercise.result ≡ r.setting.exercise = c.exercise.ensures ∙ ap (λ (x : PlainRecording). x.setting.exercise) c.log.ensures in
    let other : meaning r.setting.exercise b ≡ None =
    ap (λ x. meaning x b) (sym exercise) ∙ sym c.meaning_view.ensures ∙ ap (option_map pdu_of) c.in-None.is in
    sym (key_of_sent r s c.args.entry b c.requires.sent ∙ ap (option_and_then (sent_key r s c.args.entry)) other)
