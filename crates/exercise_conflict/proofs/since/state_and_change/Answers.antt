use Rattle.std.proofs.Common.{◌≡◌, ◌+◌, true, sym, ap, ◌∙◌, arith}
use Rattle.exercise_model.specs.Recording.{PlainRecording}
use Rattle.exercise_model.specs.Station.{StationData, is_entity, listed_state}
use Rattle.exercise_model.specs.History.{station_at}
use Rattle.std.specs.Option.{option_map_or}
use Rattle.exercise_model.specs.State.{changed}
use Rattle.exercise_findings.specs.State.{state_before}
use Rattle.exercise_conflict.specs.Since.{last_change_entry}
use Rattle.exercise_conflict.proofs.Entities.{entity_none, entity_next, since_none, since_nowhere, since_alike, since_apart, state_nowhere, state_there}
use Rattle.exercise_conflict.proofs.Owning.{state_skipped, since_skipped}
use Rattle.exercise_conflict.proofs.since.state_and_change.Goals.{then-not-is_same, else-not-is_same}
use Rattle.exercise_conflict.proofs.since.state_and_change.Goals as goal

pub returns-then-not-is_entity-clause-state : goal.returns-then-not-is_entity-clause-state
returns-then-not-is_entity-clause-state g c =
    let r : PlainRecording = c.args.logs.now in
    sym (state_nowhere r c.args.station c.args.entity c.args.before (sym c.is_entity.ensures ∙ c.if-not-is_entity.true))

pub returns-then-not-is_entity-clause-since : goal.returns-then-not-is_entity-clause-since
returns-then-not-is_entity-clause-since g c =
    let r : PlainRecording = c.args.logs.now in
    sym (since_nowhere r c.args.station c.args.entity c.args.before (sym c.is_entity.ensures ∙ c.if-not-is_entity.true))

pub loop-entry-init : goal.loop-entry-init
loop-entry-init g c =
    let r : PlainRecording = c.args.logs.now in
    record {
      within = c.first-entry.ensures.within;
      state = c.listed_state-state.ensures
          ∙ ap (λ xs. listed_state xs c.args.entity) (c.opening-opening.ensures.items
          ∙ ap (λ (o : StationData). o.opening) (c.station.ensures.station ∙ ap (station_at (g.L.ExerciseLog.recording c.log.result.now)) c.from.ensures
          ∙ ap (λ (x : PlainRecording). station_at x c.args.station) (c.log.ensures ∙ c.findings-findings.ensures))) ∙ sym (entity_none r c.args.station c.args.entity)
          ∙ state_skipped r c.args.station c.args.entity 0 c.first-entry.result c.first-entry.ensures.first;
      since = sym (since_none r c.args.station c.args.entity)
          ∙ since_skipped r c.args.station c.args.entity 0 c.first-entry.result c.first-entry.ensures.first;
    }

pub loop-entry-preserved : goal.loop-entry-preserved
loop-entry-preserved g c =
    let r : PlainRecording = c.args.logs.now in
    let s = c.args.station in
    let e = c.args.entity in
    let n = c.loop-entry.entry in
    let before = c.loop-entry.invariant in
    let after = entity_next r s n e c.loop-entry.state c.changed-next.result before.state
    (c.changed-next.ensures ∙ ap (λ o. option_map_or (changed e c.loop-entry.state) o c.loop-entry.state) (rw c.findings-findings.ensures at c.own_change.ensures)) in
    let is : is_entity e ≡ true = sym c.is_entity.ensures ∙ c.if-not-is_entity.false in
    let m = c.follower-entry.result in
    let next : c.if-not-is_same.since ≡ last_change_entry r s e (n + 1) =
    elim c.if-not-is_same.branch as (λ _. c.if-not-is_same.since ≡ last_change_entry r s e (n + 1)) [
      | then-not-is_same w ↦ w.since-is
          ∙ since_apart r s n e c.loop-entry.state c.changed-next.result is before.state after (sym c.is_same.ensures ∙ w.if-not-is_same.true)
      | else-not-is_same w ↦ w.since-is ∙ before.since
          ∙ since_alike r s n e c.loop-entry.state c.changed-next.result is before.state after (sym c.is_same.ensures ∙ w.if-not-is_same.false)
    ] in
    record {
      within = c.follower-entry.ensures.within;
      state = after ∙ state_skipped r s e (n + 1) m c.follower-entry.ensures.follows;
      since = next ∙ since_skipped r s e (n + 1) m c.follower-entry.ensures.follows;
    }

pub loop-entry-smaller : goal.loop-entry-smaller
loop-entry-smaller g c = omega (arith, c.follower-entry.ensures.follows.on, c.follower-entry.ensures.within, c.loop-entry-test.true)

pub returns-clause-state : goal.returns-clause-state
returns-clause-state g c =
    let r : PlainRecording = c.args.logs.now in
    let end : c.loop-entry.entry ≡ c.args.before = omega (arith, c.loop-entry-test.false, c.loop-entry.invariant.within) in
    let is : is_entity c.args.entity ≡ true = sym c.is_entity.ensures ∙ c.if-not-is_entity.false in
    c.loop-entry.invariant.state ∙ sym (state_there r c.args.station c.args.entity c.loop-entry.entry is)
    ∙ ap (state_before r c.args.station c.args.entity) end

pub returns-clause-since : goal.returns-clause-since
returns-clause-since g c =
    let r : PlainRecording = c.args.logs.now in
    let end : c.loop-entry.entry ≡ c.args.before = omega (arith, c.loop-entry-test.false, c.loop-entry.invariant.within) in
    c.loop-entry.invariant.since ∙ ap (last_change_entry r c.args.station c.args.entity) end
