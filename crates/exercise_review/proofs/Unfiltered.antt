-- Without filters every line is kept.
use Rattle.std.proofs.Common.{◌≡◌, ◌==◌, List, [], ◌∷◌, length, Bool, true, refl, arith}
use Rattle.std.proofs.lemmas.Bool.{eqb-true}
use Rattle.exercise_review.specs.declared.filter.Filter.{Filter}
use Rattle.exercise_review.specs.Filter.{holds_under, keeps}

pub none_keep : (filters : List Filter) (test : Filter → Bool) → (length filters == 0) ≡ true → keeps filters test ≡ true
unfolding keeps holds_under
none_keep [] test none = refl
none_keep (f ∷ fs) test none = let past : length (f ∷ fs) ≡ 0 = eqb-true _ _ none in absurd (omega (arith, past))
