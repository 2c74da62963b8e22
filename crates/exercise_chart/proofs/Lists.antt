-- Lists one after the other, one list more at a time.
use Rattle.std.proofs.Common.{◌≡◌, ℕ, ◌+◌, List, [], ◌++◌, refl, sym, ap, ◌∙◌, append_assoc, append-nil}
use Rattle.std.proofs.Math.Numerals.{add-one}
use Rattle.exercise_review.specs.Room.{lists_below}

pub lists_none : {X : Type 0} (f : ℕ → List X) → lists_below f 0 ≡ []
unfolding lists_below
lists_none f = refl

pub lists_more : {X : Type 0} (f : ℕ → List X) (n : ℕ) → lists_below f (n + 1) ≡ lists_below f n ++ f n
unfolding lists_below
lists_more f n = ap (lists_below f) (add-one n)

pub ruleset list_steps = (lists_none, lists_more)

-- what was there, before the first list
pub lists_begin : {X : Type 0} (f : ℕ → List X) (old : List X) → old ≡ old ++ lists_below f 0
lists_begin f old = sym (append-nil old) ∙ ap (λ xs. old ++ xs) (sym (lists_none f))

-- what comes next stands behind
pub list_added : {X : Type 0} (f : ℕ → List X) (n : ℕ) (old part new xs : List X) → f n ≡ xs → part ≡ old ++ lists_below f n → new ≡ part ++ xs
    → new ≡ old ++ lists_below f (n + 1)
list_added f n old part new xs here before is =
    is ∙ ap (λ ys. ys ++ xs) before ∙ append_assoc old (lists_below f n) xs
    ∙ ap (λ ys. old ++ (lists_below f n ++ ys)) (sym here) ∙ ap (λ ys. old ++ ys) (sym (lists_more f n))

-- nothing comes next
pub list_kept : {X : Type 0} (f : ℕ → List X) (n : ℕ) (old part new : List X) → f n ≡ [] → part ≡ old ++ lists_below f n → new ≡ part
    → new ≡ old ++ lists_below f (n + 1)
list_kept f n old part new none before is = list_added f n old part new [] none before (is ∙ sym (append-nil part))
