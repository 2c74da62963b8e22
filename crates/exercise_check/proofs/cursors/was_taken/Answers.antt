use Rattle.std.proofs.Common.{◌<◌, ℕ, length, arith, ap, ◌∙◌}
use Rattle.std.specs.Prelude.{nat_lt}
use Rattle.std.proofs.lemmas.List.{get_or_default}
use Rattle.exercise_model.specs.Held.{shown}
use Rattle.exercise_check.proofs.FirstSenders.{taken_by_cursor}
use Rattle.exercise_check.proofs.cursors.was_taken.Goals as goal

pub returns : goal.returns
returns g c steps tied =
    let r = g.L.ExerciseLog.recording c.args.log.now in
    let s : ℕ = c.from-station.result in
    let below : s < length r.setting.stations = grind (arith) in
    let number = c.index.ensures ∙ get_or_default c.args.cursors.now.next.items s _ 0 (omega (arith, below, tied.next.count)) in
    ap (nat_lt c.args.entry) number
    ∙ taken_by_cursor r steps c.args.entry s _ (shown c.entry.result) (c.from-station.ensures ∙ c.station.ensures) c.requires.within
    c.entry.ensures.entry (tied.next.each s below)
