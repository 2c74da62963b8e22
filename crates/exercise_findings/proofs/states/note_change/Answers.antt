use Rattle.std.proofs.Common.{◌≡◌, ◌<◌, ◌+◌, ℕ, length, Some, refl, sym, ◌∙◌, subst, arith, set}
use Rattle.std.specs.Prelude.{slice_get, IfSome}
use Rattle.std.proofs.lemmas.Option.{slice_get_read}
use Rattle.exercise_model.specs.Held.{shown}
use Rattle.exercise_model.specs.History.{event_of, station_of}
use Rattle.exercise_findings.specs.States.{AreStatesOf, AreStates}
use Rattle.exercise_findings.proofs.Tied.{no_change, one_change, on_both}
use Rattle.exercise_findings.proofs.states.note_change.Goals as goal

pub make_change-requires-clause-up_to : goal.make_change-requires-clause-up_to
make_change-requires-clause-up_to g c =
    let r = g.L.ExerciseLog.recording c.args.log.now in
    let ts = c.args.states.now in
    let s : ℕ = c.from-station.result in
    let t = c.index_mut.result.now in
    let stations : s < length r.setting.stations = grind (arith) in
    let within : s < length ts.items = omega (arith, stations, c.requires.tied.count) in
    let here : slice_get ts.items s ≡ Some t = slice_get_read ts.items (length ts.items) s t refl within c.index_mut.ensures.value in
    (subst (λ o. IfSome o (AreStatesOf r c.args.entry s)) here (c.requires.tied.each s)).up_to

pub returns-in-Some : goal.returns-in-Some
returns-in-Some g c =
    let r = g.L.ExerciseLog.recording c.args.log.now in
    let e = shown c.entry.result in
    let ts = c.args.states.now in
    let s : ℕ = c.from-station.result in
    let t = c.index_mut.result.now in
    let u = c.make_change.new.states in
    let stations : s < length r.setting.stations = grind (arith) in
    let within : s < length ts.items = omega (arith, stations, c.requires.tied.count) in
    let here : slice_get ts.items s ≡ Some t = slice_get_read ts.items (length ts.items) s t refl within c.index_mut.ensures.value in
    let same : s ≡ station_of (event_of e) = c.from-station.ensures ∙ c.station.ensures in
    on_both c.make_change.result
    (λ up made. subst (λ i. AreStates r (c.args.entry + 1) (set ts.items i u)) (sym same)
    (one_change r c.args.entry e c.in-Some.change ts.items t u c.entry.ensures.entry (sym c.in-Some.is ∙ c.requires.change)
    (subst (λ i. slice_get ts.items i ≡ Some t) same here) (subst (λ i. i < length ts.items) same within) c.requires.tied up made))
    c.make_change.ensures.up_to c.make_change.ensures.states

pub returns-in-None : goal.returns-in-None
returns-in-None g c =
    no_change (g.L.ExerciseLog.recording c.args.log.now) c.args.entry c.args.states.now.items (sym c.requires.change ∙ c.in-None.is) c.requires.tied
