use Rattle.std.proofs.Common.{◌≡◌, ℕ, List, length, Some, sym, ap, ◌∙◌}
use Rattle.std.specs.Prelude.{is_some, slice_index_or}
use Rattle.exercise_model.specs.Held.{shown}
use Rattle.exercise_model.specs.Recording.{PlainRecording}
use Rattle.exercise_findings.specs.Number.{entry_of}
use Rattle.exercise_review.specs.Sourced.{entry_in}
use Rattle.exercise_review.proofs.Sourced.{number_kept, first_within, place_there, heard_here, heard_elsewhere, last_told}
use Rattle.exercise_review.proofs.sources.receipts_from.Goals as goal

pub entry-requires : goal.entry-requires
entry-requires g c =
    let r : PlainRecording = g.L.ExerciseLog.recording c.args.log.now in
    let e : ℕ = c.args.entry in
    let found : entry_in c.args.sources.now.first.items e ≡ Some c.in-Some.at =
    sym (c.entry_of.ensures ∙ ap entry_of (c.number_at-first.ensures ∙ ap (λ (xs : List ℕ). slice_index_or xs e 4294967295) c.deref.ensures.value)) ∙ c.in-Some.is in
    first_within r (length r.entries) e c.in-Some.at c.args.sources.now c.requires.tells found

pub returns-then-station-clause-first : goal.returns-then-station-clause-first
returns-then-station-clause-first g c b answer =
    let r : PlainRecording = g.L.ExerciseLog.recording c.args.log.now in
    let e : ℕ = c.args.entry in
    let found : entry_in c.args.sources.now.first.items e ≡ Some c.in-Some.at =
    sym (c.entry_of.ensures ∙ ap entry_of (c.number_at-first.ensures ∙ ap (λ (xs : List ℕ). slice_index_or xs e 4294967295) c.deref.ensures.value)) ∙ c.in-Some.is in
    let place = place_there r c.in-Some.at (shown c.entry.result) c.entry.ensures.entry ∙ ap Some (sym c.station.ensures) in
    sym (heard_elsewhere r c.args.sources.now e c.in-Some.at c.station.result c.args.station b c.requires.tells answer found place c.if-station.true).0

pub returns-then-station-clause-last : goal.returns-then-station-clause-last
returns-then-station-clause-last g c b answer =
    let r : PlainRecording = g.L.ExerciseLog.recording c.args.log.now in
    let e : ℕ = c.args.entry in
    let found : entry_in c.args.sources.now.first.items e ≡ Some c.in-Some.at =
    sym (c.entry_of.ensures ∙ ap entry_of (c.number_at-first.ensures ∙ ap (λ (xs : List ℕ). slice_index_or xs e 4294967295) c.deref.ensures.value)) ∙ c.in-Some.is in
    let place = place_there r c.in-Some.at (shown c.entry.result) c.entry.ensures.entry ∙ ap Some (sym c.station.ensures) in
    sym (heard_elsewhere r c.args.sources.now e c.in-Some.at c.station.result c.args.station b c.requires.tells answer found place c.if-station.true).1

pub returns-clause-first : goal.returns-clause-first
returns-clause-first g c b answer =
    let r : PlainRecording = g.L.ExerciseLog.recording c.args.log.now in
    let e : ℕ = c.args.entry in
    let first = c.number_at-first.ensures ∙ ap (λ (xs : List ℕ). slice_index_or xs e 4294967295) c.deref.ensures.value in
    let found : entry_in c.args.sources.now.first.items e ≡ Some c.in-Some.at = sym (c.entry_of.ensures ∙ ap entry_of first) ∙ c.in-Some.is in
    let place = place_there r c.in-Some.at (shown c.entry.result) c.entry.ensures.entry ∙ ap Some (sym c.station.ensures ∙ c.if-station.false) in
    ap Some first ∙ number_kept (slice_index_or c.args.sources.now.first.items e 4294967295) (ap is_some found)
    ∙ (heard_here r c.args.sources.now e c.in-Some.at c.args.station b c.requires.tells answer found place).0

pub returns-clause-last : goal.returns-clause-last
returns-clause-last g c b answer =
    let r : PlainRecording = g.L.ExerciseLog.recording c.args.log.now in
    let e : ℕ = c.args.entry in
    let first = c.number_at-first.ensures ∙ ap (λ (xs : List ℕ). slice_index_or xs e 4294967295) c.deref.ensures.value in
    let last = c.number_at-last.ensures ∙ ap (λ (xs : List ℕ). slice_index_or xs e 4294967295) c.deref-2.ensures.value in
    let found : entry_in c.args.sources.now.first.items e ≡ Some c.in-Some.at = sym (c.entry_of.ensures ∙ ap entry_of first) ∙ c.in-Some.is in
    let place = place_there r c.in-Some.at (shown c.entry.result) c.entry.ensures.entry ∙ ap Some (sym c.station.ensures ∙ c.if-station.false) in
    ap Some last
    ∙ number_kept (slice_index_or c.args.sources.now.last.items e 4294967295) (last_told r (length r.entries) e c.in-Some.at c.args.sources.now c.requires.tells found)
    ∙ (heard_here r c.args.sources.now e c.in-Some.at c.args.station b c.requires.tells answer found place).1
