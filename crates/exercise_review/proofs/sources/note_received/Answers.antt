use Rattle.std.proofs.Common.{◌≡◌, ◌<◌, ℕ, List, length, Some, None, sym, ap, ◌∙◌, subst}
use Rattle.std.specs.Prelude.{option_map}
use Rattle.siman_pdus.specs.Reading.{pdu_of}
use Rattle.exercise_model.specs.Meaning.{meaning}
use Rattle.exercise_model.specs.Recording.{PlainRecording}
use Rattle.exercise_review.specs.Records.{entry_places}
use Rattle.exercise_review.proofs.Options.{nothing}
use Rattle.exercise_review.proofs.Sourced.{from_nowhere, place_got, source_below, source_other, sources_still}
use Rattle.exercise_review.proofs.sources.note_received.Goals as goal

pub note_receipt_of-requires-clause-source : goal.note_receipt_of-requires-clause-source
note_receipt_of-requires-clause-source g c =
    subst (λ (x : PlainRecording). c.in-Some.source < length x.entries) (sym c.log-log.ensures)
    (source_below c.args.findings.now c.args.entry c.in-Some.source c.args.station c.args.bytes.now c.requires.got c.in-Some.ensures)

pub note_receipt_of-requires-clause-place : goal.note_receipt_of-requires-clause-place
note_receipt_of-requires-clause-place g c =
    subst (λ (x : PlainRecording). entry_places x c.args.entry ≡ Some c.args.station) (sym c.log-log.ensures)
    (place_got c.args.findings.now c.args.station c.args.entry c.args.bytes.now c.requires.got)

pub returns-else-is_some : goal.returns-else-is_some
returns-else-is_some g c whole =
    let r : PlainRecording = c.args.findings.now in
    let b : List ℕ = c.args.bytes.now in
    let exercise : c.exercise.result ≡ r.setting.exercise = c.exercise.ensures ∙ ap (λ (x : PlainRecording). x.setting.exercise) c.log-log.ensures in
    let none : c.meaning_view.result ≡ None = nothing c.meaning_view.result (sym c.is_some.ensures ∙ c.if-is_some.false) in
    let other : meaning r.setting.exercise b ≡ None = ap (λ x. meaning x b) (sym exercise) ∙ sym c.meaning_view.ensures ∙ ap (option_map pdu_of) none in
    sources_still r c.args.entry c.args.sources.now (from_nowhere r c.args.entry (source_other r c.args.entry c.args.station b c.requires.got other)) c.requires.tied
