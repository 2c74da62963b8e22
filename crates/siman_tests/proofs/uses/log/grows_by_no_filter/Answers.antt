use Rattle.std.proofs.Common.{List, [], arith, length, ⊎_elim, ◌∷◌, ◌≡◌, ◌≤◌}
use Rattle.exercise_review.specs.Filter.{ArePart}
use Rattle.exercise_log.specs.Log.{log_lines}
use Rattle.siman_tests.proofs.uses.log.grows_by_no_filter.Goals as goal

-- a part has no more entries than the whole
part_shorter : {X : Type 0} (xs ys : List X) → ArePart xs ys → length xs ≤ length ys
part_shorter xs [] none = rw none omega arith
part_shorter {X = X} xs (y ∷ ys) part = ⊎_elim
    (λ (rest : ArePart xs ys). let less = part_shorter xs ys rest in omega (arith, less))
    (λ (here : (zs : List X) × (xs ≡ y ∷ zs) × ArePart zs ys). let less = part_shorter here.0 ys here.2 in rw here.1 omega (arith, less))
    part

pub returns : goal.returns
returns c = λ r filters. part_shorter (log_lines r filters) (log_lines r []) (c.filters_take_away.ensures r filters)
