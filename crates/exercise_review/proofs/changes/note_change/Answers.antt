use Rattle.std.proofs.Common.{◌<◌, ℕ, length, refl, sym, ap, ◌∙◌, arith}
use Rattle.std.specs.Prelude.{slice_get}
use Rattle.std.proofs.lemmas.Option.{slice_get_read}
use Rattle.exercise_model.specs.Held.{shown}
use Rattle.exercise_model.specs.Recording.{PlainRecording}
use Rattle.exercise_review.proofs.Courses.{changes_still, changes_more}
use Rattle.exercise_review.proofs.changes.note_change.Goals as goal

pub returns-in_default : goal.returns-in_default
returns-in_default g c = changes_still c.args.findings.now c.args.entry c.args.all.now.items (sym c.change.ensures ∙ c.in_default.is) c.requires.before

pub returns : goal.returns
returns g c =
    let r = c.args.findings.now in
    let all = c.args.all.now in
    let t : ℕ = c.from-station.result in
    let old = c.index_mut.result.now in
    let new = c.push.new.self in
    let stations : t < length r.setting.stations = grind (arith) in
    let within : t < length all.items = omega (arith, stations, c.requires.before.count) in
    let here = slice_get_read all.items (length all.items) t old refl within c.index_mut.ensures.value in
    changes_more r c.args.entry t (shown c.entry.result) c.in-Some.change all.items old new
    (ap (λ (x : PlainRecording). slice_get x.entries c.args.entry) (sym c.log.ensures) ∙ c.entry.ensures.entry) (c.from-station.ensures ∙ c.station.ensures) (sym c.change.ensures ∙ c.in-Some.is) here within
    c.in_ok-push.ensures.items c.requires.before
