use Rattle.std.proofs.Common.{◌≡◌, ◌<◌, ℕ, length, arith, ap, ◌∙◌}
use Rattle.std.specs.Prelude.{nat_eq}
use Rattle.std.proofs.lemmas.List.{get_or_default}
use Rattle.exercise_model.specs.History.{event_of}
use Rattle.exercise_model.specs.Held.{shown}
use Rattle.exercise_check.specs.Sequence.{is_next}
use Rattle.exercise_check.proofs.Courses.{at_entry}
use Rattle.exercise_check.proofs.Nexts.{next_by_cursor}
use Rattle.exercise_check.proofs.cursors.is_next.Goals as goal

pub returns : goal.returns
returns g c steps tied =
    let r = g.L.ExerciseLog.recording c.args.log.now in
    let s : ℕ = c.from-station.result in
    let below : s < length r.setting.stations = grind (arith) in
    let number = c.index.ensures ∙ get_or_default c.args.cursors.now.next.items s _ 0 (omega (arith, below, tied.next.count)) in
    at_entry _ (shown c.entry.result) (λ e. nat_eq c.index.result.now c.args.place ≡ is_next r steps c.args.place (event_of e)) c.entry.ensures.entry
    (ap (λ n. nat_eq n c.args.place) number
    ∙ next_by_cursor r steps c.args.place s _ (shown c.entry.result) (c.from-station.ensures ∙ c.station.ensures) c.requires.within
    c.entry.ensures.entry (tied.next.each s below))
