use Rattle.std.proofs.Common.{◌≡◌, ℕ, zero, suc, List, [], ◌∷◌, ◌++◌, length, Option, None, refl, ap, ◌∙◌, arith}
use Rattle.std.specs.Prelude.{slice_index_or}
use Rattle.std.proofs.lemmas.List.{length_push}
use Rattle.exercise_chart.proofs.taken.none_taken.Goals as goal

none_more : (xs : List (Option ℕ)) → ((i : ℕ) → slice_index_or xs i None ≡ None) → (i : ℕ) → slice_index_or (xs ++ None ∷ []) i None ≡ None
none_more [] none zero = refl
none_more [] none (suc i) = refl
none_more (x ∷ xs) none zero = none 0
none_more (x ∷ xs) none (suc i) = none_more xs (λ k. none (suc k)) i

pub loop-entry-preserved : goal.loop-entry-preserved
loop-entry-preserved c = record {
  count = omega (arith, ap length c.in_ok-push.ensures.items, length_push c.loop-entry.taken.items None, c.loop-entry.invariant.count);
  each = λ i. ap (λ (xs : List (Option ℕ)). slice_index_or xs i None) c.in_ok-push.ensures.items ∙ none_more c.loop-entry.taken.items c.loop-entry.invariant.each i;
}
