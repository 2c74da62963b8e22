use Rattle.std.proofs.Common.{ℕ, ◌<◌, set, length, ap, ◌∙◌, arith}
use Rattle.std.proofs.lemmas.List.Edits.{map_over_more}
use Rattle.dis_records.specs.declared.entity_state.EntityState.{EntityState}
use Rattle.exercise_model.specs.State.{changed}
use Rattle.siman_application.proofs.entity_list.change_each.Goals as goal

pub loop-place-preserved : goal.loop-place-preserved
loop-place-preserved c =
    let xs = c.loop-place.entities.items in
    let i = c.loop-place.place in
    let x : ℕ × EntityState = c.index.result.now in
    let within : i < length c.args.entities.now.items = omega arith in
    ap (λ (y : EntityState). set xs i (x.0, y)) c.changed.ensures
    ∙ map_over_more (λ x. (x.0, changed x.0 x.1 c.args.change)) c.args.entities.now.items xs i x within c.loop-place.invariant c.index.ensures
