use Rattle.std.proofs.Common.{◌≡◌, ◌<◌, ℕ, List, Some, refl, sym, ap, ◌∙◌, arith}
use Rattle.std.specs.Prelude.{Result, Ok, Err, OnOk, slice_index_or}
use Rattle.std.specs.declared.alloc.AllocError.{AllocError}
use Rattle.exercise_model.specs.Held.{shown}
use Rattle.exercise_model.specs.Recording.{PlainRecording}
use Rattle.exercise_findings.specs.Number.{entry_of}
use Rattle.exercise_review.specs.declared.sources.SourceColumns.{SourceColumns}
use Rattle.exercise_review.specs.Records.{entry_places}
use Rattle.exercise_review.specs.Register.{no_entry}
use Rattle.exercise_review.specs.Sourced.{entry_in}
use Rattle.exercise_review.proofs.Sourced.{first_within, place_there, sources_begun, sources_on}
use Rattle.exercise_review.proofs.sources.note_receipt_of.Goals as goal

on_more : {P Q : Type 0} (result : Result (Unit {0}) AllocError) → (P → Q) → OnOk result P → OnOk result Q
on_more (Ok x) f p = f p
on_more (Err e) f p = tt

pub entry-requires : goal.entry-requires
entry-requires g c =
    let r : PlainRecording = g.L.ExerciseLog.recording c.args.log.now in
    let first : c.entry_of.result ≡ entry_in c.args.sources.now.first.items c.args.source =
    c.entry_of.ensures ∙ ap entry_of (c.number_at.ensures ∙ ap (λ (xs : List ℕ). slice_index_or xs c.args.source 4294967295) c.deref.ensures.value) in
    let within = first_within r c.args.entry c.args.source c.in-Some.first c.args.sources.now c.requires.tied (sym first ∙ c.in-Some.is) in
    omega (arith, within, c.requires.within)

pub returns-in_ok-put_number-in-None : goal.returns-in_ok-put_number-in-None
returns-in_ok-put_number-in-None g c =
    let r : PlainRecording = g.L.ExerciseLog.recording c.args.log.now in
    let first : c.entry_of.result ≡ entry_in c.args.sources.now.first.items c.args.source =
    c.entry_of.ensures ∙ ap entry_of (c.number_at.ensures ∙ ap (λ (xs : List ℕ). slice_index_or xs c.args.source 4294967295) c.deref.ensures.value) in
    let few : c.args.entry < no_entry = omega (arith, c.requires.within, c.entry_count-count.ensures.limits.count) in
    let new : SourceColumns = record { first = c.put_number.new.column; last = c.put_number-in-None.new.column; whole = c.args.sources.now.whole } in
    on_more c.put_number-in-None.result
    (λ put whole. sources_begun r c.args.entry c.args.source c.args.sources.now new few c.requires.key c.requires.from (sym first ∙ c.in-None.is)
    c.in_ok-put_number-in-None.ensures put c.requires.tied)
    c.put_number-in-None.ensures

pub returns-in-Some : goal.returns-in-Some
returns-in-Some g c =
    let r : PlainRecording = g.L.ExerciseLog.recording c.args.log.now in
    let at : ℕ = c.in-Some.first in
    let first : c.entry_of.result ≡ entry_in c.args.sources.now.first.items c.args.source =
    c.entry_of.ensures ∙ ap entry_of (c.number_at.ensures ∙ ap (λ (xs : List ℕ). slice_index_or xs c.args.source 4294967295) c.deref.ensures.value) in
    let few : c.args.entry < no_entry = omega (arith, c.requires.within, c.entry_count-count.ensures.limits.count) in
    let place : entry_places r c.args.entry ≡ entry_places r at =
    c.requires.place ∙ sym (place_there r at (shown c.entry.result) c.entry.ensures.entry ∙ ap Some (sym c.station.ensures ∙ c.if-station.true)) in
    let new : SourceColumns = record { first = c.args.sources.now.first; last = c.put_number-in-Some.new.column; whole = c.args.sources.now.whole } in
    on_more c.put_number-in-Some.result
    (λ put whole. sources_on r c.args.entry c.args.source at c.args.sources.now new few c.requires.key c.requires.from (sym first ∙ c.in-Some.is)
    place refl put c.requires.tied)
    c.put_number-in-Some.ensures
