use Rattle.std.proofs.Common.{◌<◌, ℕ, length, arith, ◌∙◌}
use Rattle.std.proofs.lemmas.List.{get_or_default}
use Rattle.exercise_model.specs.Held.{shown}
use Rattle.exercise_conflict.proofs.Owning.{gone_back}
use Rattle.exercise_conflict.proofs.own.go_back.Goals as goal

pub returns : goal.returns
returns g c =
    let r = g.L.ExerciseLog.recording c.args.log.now in
    let s : ℕ = c.from-station.result in
    let below : s < length r.setting.stations = grind (arith) in
    let back = gone_back r c.args.entry (shown c.entry.result) s c.index-follower.result.now c.args.own.now c.replace.new.column.items c.replace-2.new.column.items
    c.entry.ensures.entry (c.from-station.ensures ∙ c.station.ensures) below
    (c.index-follower.ensures ∙ get_or_default c.args.own.now.first.items s _ 0 (omega (arith, below, c.requires.tied.first.count))) c.replace.ensures.count (c.replace.ensures.each 0) c.replace-2.ensures.count
    (c.replace-2.ensures.each 0) c.requires.tied in
    record { followers = back.0; first = back.1 }
