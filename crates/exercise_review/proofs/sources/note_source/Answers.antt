use Rattle.std.proofs.Common.{◌≡◌, true, sym, ◌∙◌}
use Rattle.std.specs.Prelude.{is_some}
use Rattle.exercise_model.specs.Recording.{PlainRecording}
use Rattle.exercise_review.specs.Register.{key_at}
use Rattle.exercise_review.proofs.Sourced.{from_keyed, got_bytes, sent_nowhere, told_nowhere, sources_still}
use Rattle.exercise_review.proofs.sources.note_source.Goals as goal

pub returns-then-has_key : goal.returns-then-has_key
returns-then-has_key g c whole =
    let r : PlainRecording = c.args.findings.now in
    let keyed : is_some (key_at r c.args.entry) ≡ true = sym c.requires.key ∙ c.if-has_key.true in
    sources_still r c.args.entry c.args.sources.now (from_keyed r c.args.entry keyed) (c.requires.tied whole)

pub note_received-requires-clause-got : goal.note_received-requires-clause-got
note_received-requires-clause-got g c =
    got_bytes c.args.findings.now c.args.entry c.in-Received.station c.in-Received.stamp c.in-Received.bytes.now (rw c.in-Received.is at c.requires.at)

pub returns-in-Sent : goal.returns-in-Sent
returns-in-Sent g c whole =
    let r : PlainRecording = c.args.findings.now in
    sources_still r c.args.entry c.args.sources.now (sent_nowhere r c.args.entry _ _ _ (rw c.in-Sent.is at c.requires.at)) (c.requires.tied whole)

pub returns-in-Told : goal.returns-in-Told
returns-in-Told g c whole =
    let r : PlainRecording = c.args.findings.now in
    sources_still r c.args.entry c.args.sources.now (told_nowhere r c.args.entry _ _ _ (rw c.in-Told.is at c.requires.at)) (c.requires.tied whole)
