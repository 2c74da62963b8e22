use Rattle.std.proofs.Common.{ℕ, List, [], map, Vec, Global, sym, ap, ◌∙◌}
use Rattle.std.specs.Prelude.{slice_index_or}
use Rattle.dis_records.specs.declared.entity_state.EntityState.{EntityState}
use Rattle.exercise_model.specs.Account.{states_of}
use Rattle.exercise_model.specs.Recording.{PlainRecording}
use Rattle.exercise_model.proofs.Offered.{states-all}
use Rattle.exercise_review.specs.Row.{row_order}
use Rattle.exercise_review.specs.Told.{reviewed_orders}
use Rattle.exercise_review.proofs.Places.{orders_are_told}
use Rattle.exercise_review.proofs.reviewed.counted.Goals as goal

pub counts_of_stations-requires-clause-states : goal.counts_of_stations-requires-clause-states
counts_of_stations-requires-clause-states g c s =
    ap (λ (xs : List (Vec (ℕ × EntityState) Global)). slice_index_or (map (λ v. v.items) xs) s []) c.deref-2.ensures.value
    ∙ ap (λ xs. slice_index_or xs s []) c.in_ok-states.ensures
    ∙ states-all c.args.findings.now s
    ∙ ap (λ (x : PlainRecording). states_of x s) (sym c.log.ensures)

pub returns-clause-fates : goal.returns-clause-fates
returns-clause-fates g c =
    let r : PlainRecording = c.args.findings.now in
    c.in_ok-fates.ensures r (reviewed_orders r) (ap (map (row_order r)) c.deref.ensures.value ∙ orders_are_told r c.args.told.now c.requires)
