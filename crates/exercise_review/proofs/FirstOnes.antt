-- Whether an entry is the first that passes, found on the way back through the entries under its key.
use Rattle.std.proofs.Common.{◌≡◌, ℕ, ◌<◌, ◌≤◌, Bool, true, false, Option, Some, None, refl, sym, ap, ◌∙◌, arith}
use Rattle.std.specs.Prelude.{is_some, ◌==◌}
use Rattle.std.proofs.lemmas.Bool.{eqb-true, eq-eqb}
use Rattle.siman_pdus.specs.Answers.{same_id}
use Rattle.exercise_model.specs.Place.{first_below}
use Rattle.exercise_model.proofs.Offered.{first_found, first_is}
use Rattle.exercise_review.specs.Counted.{last_below}
use Rattle.exercise_review.proofs.Runs.{none_passes}
use Rattle.exercise_review.proofs.Walks.{past, jump, first_still}

pub off : (b : Bool) → (b ≡ true → ⊥) → b ≡ false
off true never = absurd (never refl)
off false never = refl

-- it is not where another was found
not_it : (i : ℕ) (o : Option ℕ) → (o ≡ Some i → ⊥) → false ≡ same_id o (Some i)
not_it i None never = refl
not_it i (Some j) never = sym (off (j == i) (λ same. never (ap Some (eqb-true j i same))))

-- it does not pass itself
pub fails_itself : (f : ℕ → Bool) (n i : ℕ) → f i ≡ false → false ≡ same_id (first_below f n) (Some i)
fails_itself f n i fails = not_it i (first_below f n) (λ found. let clash : true ≡ false = sym (first_found f n i found).passes ∙ fails in absurd (cc))

-- one before it passes
pub passes_before : (f : ℕ → Bool) (n i j : ℕ) → j < i → f j ≡ true → false ≡ same_id (first_below f n) (Some i)
passes_before f n i j before passes =
    not_it i (first_below f n) (λ found. none_passes f i j (ap is_some (first_found f n i found).none) before passes)

-- none before it does
pub none_before : (f : ℕ → Bool) (n i : ℕ) → i < n → f i ≡ true → first_below f i ≡ None → true ≡ same_id (first_below f n) (Some i)
none_before f n i within passes none =
    sym (ap (λ o. same_id o (Some i)) (first_is f n i within passes (λ k below. off (f k) (none_passes f i k (ap is_some none) below))) ∙ eq-eqb i i refl)

-- another before it is the first
pub none_or_not : (f : ℕ → Bool) (n i j : ℕ) → first_below f i ≡ Some j → false ≡ same_id (first_below f n) (Some i)
none_or_not f n i j found = passes_before f n i j (first_found f i j found).below (first_found f i j found).passes

-- it is not below the bound
pub not_beyond : (f : ℕ → Bool) (n i : ℕ) → n ≤ i → false ≡ same_id (first_below f n) (Some i)
not_beyond f n i beyond = not_it i (first_below f n) (λ found. let within = (first_found f n i found).below in absurd (omega (arith, within, beyond)))

-- ---- the way back

-- what is before entry i is the same before the next on the way
abbrev pub IsBackOn : (ℕ → Bool) → (i : ℕ) → (next : Option ℕ) → Type 0
IsBackOn f i next = first_below f i ≡ first_below f (past next)

pub back_starts : (f h : ℕ → Bool) (i : ℕ) (next : Option ℕ) → ((j : ℕ) → f j ≡ true → h j ≡ true) → next ≡ last_below h i → IsBackOn f i next
back_starts f h i next under e = jump (first_below f) f h under (first_still f) i ∙ ap (λ o. first_below f (past o)) (sym e)

pub back_fails : (f h : ℕ → Bool) (i j : ℕ) (next : Option ℕ) → ((k : ℕ) → f k ≡ true → h k ≡ true) → next ≡ last_below h j
    → f j ≡ false → IsBackOn f i (Some j) → IsBackOn f i next
back_fails f h i j next under e fails so_far = so_far ∙ first_still f j fails ∙ back_starts f h j next under e

pub back_ends : (f : ℕ → Bool) (i : ℕ) → IsBackOn f i None → first_below f i ≡ None
unfolding first_below
back_ends f i so_far = so_far
