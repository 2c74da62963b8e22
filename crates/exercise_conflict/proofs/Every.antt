-- What holds of each element of a list.
use Rattle.std.proofs.Common.{List, [], ◌∷◌, ◌++◌, filter, cond, Bool, true, false}
use Rattle.exercise_conflict.specs.Repair.{Every}

pub every-append : {X : Type 0} (P : X → Type 0) (xs ys : List X) → Every P xs → Every P ys → Every P (xs ++ ys)
every-append P [] ys one other = other
every-append P (x ∷ xs) ys one other = (one.0, every-append P xs ys one.1 other)

pub every-filter : {X : Type 0} (p : X → Bool) (P : X → Type 0) (xs : List X) → Every P xs → Every P (filter p xs)
every-filter p P [] all = tt
every-filter p P (x ∷ xs) all =
    elim (p x) as (λ b. Every P (cond b (x ∷ filter p xs) (filter p xs))) [
      | true ↦ (all.0, every-filter p P xs all.1)
      | false ↦ every-filter p P xs all.1
    ]
