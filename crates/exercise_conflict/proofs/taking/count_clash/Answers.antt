use Rattle.std.proofs.Common.{◌≡◌, ℕ, ◌<◌, length, sym, ap, ◌∙◌}
use Rattle.std.specs.Prelude.{slice_index_or, nat_eq, nat_lt}
use Rattle.exercise_model.specs.Place.{first_below}
use Rattle.exercise_conflict.specs.declared.step_clash.StepClash.TheVariants as told
use Rattle.exercise_conflict.specs.StepClash.{is_left_out, is_taken_again}
use Rattle.exercise_conflict.proofs.Counted.{same_below}
use Rattle.exercise_conflict.proofs.taking.count_clash.Goals as goal

pub returns : goal.returns
returns c =
    let steps = c.args.steps.now in
    let n = c.args.entries in
    let left : c.first_below.result ≡ first_below (is_left_out steps) n =
    c.first_below.ensures
    ∙ same_below (λ i. nat_eq (slice_index_or c.deref.result.now i 0) 0) (is_left_out steps) n
    (λ i less. ap (λ xs. nat_eq (slice_index_or xs i 0) 0) c.deref.ensures.value ∙ ap (λ k. nat_eq k 0) (c.in_ok-times.ensures.each i less)) in
    let again : c.first_below-2.result ≡ first_below (is_taken_again steps) n =
    c.first_below-2.ensures
    ∙ same_below (λ i. nat_lt 1 (slice_index_or c.deref-2.result.now i 0)) (is_taken_again steps) n
    (λ i less. ap (λ xs. nat_lt 1 (slice_index_or xs i 0)) c.deref-2.ensures.value ∙ ap (λ k. nat_lt 1 k) (c.in_ok-times.ensures.each i less)) in
    ap (λ o. told.CountDiffers (length steps) n o c.first_below-2.result) left ∙ ap (told.CountDiffers (length steps) n (first_below (is_left_out steps) n)) again
