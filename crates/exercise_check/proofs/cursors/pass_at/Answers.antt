use Rattle.std.proofs.Common.{◌≡◌, refl, sym, arith, ◌∙◌}
use Rattle.std.proofs.lemmas.List.{get_or_default}
use Rattle.exercise_model.specs.History.{event_of, station_of}
use Rattle.exercise_findings.proofs.Offered.{entry_within}
use Rattle.exercise_check.proofs.Courses.{from_entry}
use Rattle.exercise_check.proofs.Moved.{passed}
use Rattle.exercise_check.proofs.cursors.pass_at.Goals as goal

pub returns : goal.returns
returns g c steps link ready cursors =
    let r = g.L.ExerciseLog.recording c.args.log.now in
    let e = entry_within r.entries c.args.place c.requires.within in
    passed r steps (record { place = c.args.place; link = link }) e.0 c.args.station c.index-follower.result.now c.args.cursors.now
    (record { followers = c.args.cursors.now.followers; next = c.replace.new.column }) c.requires.within e.1
    (sym (from_entry _ e.0 (λ x. station_of (event_of x) ≡ c.args.station) e.1 c.requires.own)) ready
    (c.index-follower.ensures ∙ get_or_default c.args.cursors.now.followers.items c.args.place _ 0 (omega (arith, c.requires.within, c.requires.followers))) refl c.replace.ensures.count (c.replace.ensures.each 0) cursors
