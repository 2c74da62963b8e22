use Rattle.std.proofs.Common.{[], ◌∷◌, ◌++◌, map, ap, sym, ◌∙◌}
use Rattle.std.proofs.lemmas.List.{map-append}
use Rattle.exercise_model.specs.Account.{entities_of, values_below}
use Rattle.exercise_model.proofs.Offered.{values_below-more}
use Rattle.exercise_findings.proofs.accounting.states.Goals as goal
use Rattle.exercise_model.proofs.Offered.{account_steps}
use Rattle.std.proofs.Common.{arith}

pub loop-station-preserved : goal.loop-station-preserved
loop-station-preserved g c =
    let r = g.L.ExerciseLog.recording c.args.log.now in
    ap (map (λ v. v.items)) c.in_ok-push.ensures.items
    ∙ map-append (λ v. v.items) c.loop-station.states.items (c.in_ok-entities.field-0 ∷ [])
    ∙ ap (λ xs. xs ++ c.in_ok-entities.field-0.items ∷ []) c.loop-station.invariant
    ∙ ap (λ x. values_below (entities_of r) c.loop-station.station ++ x ∷ []) c.in_ok-entities.ensures
    ∙ sym (values_below-more (entities_of r) c.loop-station.station)

pub loop-station-init : goal.loop-station-init
loop-station-init g c = grind (arith, account_steps)
