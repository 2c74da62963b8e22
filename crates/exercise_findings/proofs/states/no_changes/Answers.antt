use Rattle.std.proofs.Common.{◌≡◌, length, arith, subst, sym, ◌∙◌, ap}
use Rattle.exercise_model.specs.Station.{listed_state}
use Rattle.exercise_findings.specs.States.{AreStatesBelow}
use Rattle.exercise_findings.proofs.Tied.{opening_of, no_stations, one_station}
use Rattle.exercise_findings.proofs.states.no_changes.Goals as goal

pub loop-station-init : goal.loop-station-init
loop-station-init g c = subst (AreStatesBelow (g.L.ExerciseLog.recording c.args.log.now) 0 0) (sym c.new-states.ensures.items) (no_stations _ 0)

pub loop-station-preserved : goal.loop-station-preserved
loop-station-preserved g c =
    let r = g.L.ExerciseLog.recording c.args.log.now in
    let t = c.in_ok-opening_states.field-0 in
    one_station r 0 c.loop-station.station c.loop-station.states.items _ t c.in_ok-push.ensures.items c.loop-station.invariant
    (opening_of r c.loop-station.station t c.in_ok-opening_states.ensures.up_to
    (λ m. c.in_ok-opening_states.ensures.states m ∙ ap (λ s. listed_state s.opening m) c.station.ensures.station))

pub returns : goal.returns
returns g c =
    let r = g.L.ExerciseLog.recording c.args.log.now in
    let end : c.loop-station.station ≡ length r.setting.stations =
    omega (arith, c.loop-station-test.false, c.loop-station.auto.station-end, c.station_count-station-end.ensures.count) in
    subst (λ n. AreStatesBelow r 0 n c.loop-station.states.items) end c.loop-station.invariant
