use Rattle.std.proofs.Common.{◌≡◌, refl, sym, ap, ◌∙◌, arith}
use Rattle.exercise_model.specs.Station.{StationData, listed_state}
use Rattle.exercise_model.specs.History.{station_at}
use Rattle.exercise_model.specs.State.{state_after, entity_state}
use Rattle.exercise_model.specs.Place.{log_before}
use Rattle.exercise_findings.proofs.Tied.{state_more, state_none}
use Rattle.exercise_findings.proofs.made.state_made_before.Goals as goal

pub returns-then-not-is_entity : goal.returns-then-not-is_entity
unfolding state_after
returns-then-not-is_entity g c = rw (sym c.is_entity.ensures ∙ c.if-not-is_entity.true) refl

pub loop-entry-init : goal.loop-entry-init
loop-entry-init g c =
    let r = g.L.ExerciseLog.recording c.args.log.now in
    c.listed_state-state.ensures
    ∙ ap (λ xs. listed_state xs c.args.entity)
    (c.opening.ensures.items ∙ ap (λ (o : StationData). o.opening) (c.station.ensures.station ∙ ap (station_at r) c.from.ensures))
    ∙ sym (state_none r c.args.station c.args.entity)

pub loop-entry-preserved : goal.loop-entry-preserved
loop-entry-preserved g c =
    let r = g.L.ExerciseLog.recording c.args.log.now in
    let s = c.args.station in
    let e = c.args.entity in
    rw (c.changed-state.ensures, c.own_change.ensures, c.loop-entry.invariant) (sym (state_more r s c.loop-entry.entry e))

pub returns : goal.returns
unfolding state_after
returns g c =
    let r = g.L.ExerciseLog.recording c.args.log.now in
    let end : c.loop-entry.entry ≡ c.args.before = omega (arith, c.loop-entry-test.false, c.loop-entry.auto.entry-end) in
    rw (sym c.is_entity.ensures ∙ c.if-not-is_entity.false)
    (c.loop-entry.invariant ∙ ap (λ n. entity_state r.setting.exercise (station_at r c.args.station) (log_before r c.args.station n) c.args.entity) end)
