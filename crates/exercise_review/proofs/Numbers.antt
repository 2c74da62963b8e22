-- Numbers that pass, one number more at a time.
use Rattle.std.proofs.Common.{◌≡◌, ⊎_elim, ℕ, zero, suc, ◌+◌, ◌-◌, ◌<◌, ◌≤◌, Bool, Some, None, true, false, refl, ap, ◌∙◌, arith}
use Rattle.std.specs.Prelude.{if◌then◌else◌}
use Rattle.std.specs.Option.{option_or}
use Rattle.std.proofs.Math.Numerals.{add-one}
use Rattle.std.proofs.lemmas.Bool.{cases_lt}
use Rattle.exercise_model.specs.Place.{first_below}
use Rattle.exercise_review.specs.Counted.{last_below, count_below}

pub first_none : (f : ℕ → Bool) → first_below f 0 ≡ None
unfolding first_below
first_none f = refl

pub first_still : (f : ℕ → Bool) (n : ℕ) → first_below f n ≡ None → f n ≡ false → first_below f (n + 1) ≡ None
unfolding first_below
first_still f n none here =
    ap (first_below f) (add-one n) ∙ ap (λ o. option_or o (if f n then Some n else None)) none ∙ ap (λ b. if b then Some n else None) here

-- nothing passes below n where nothing does below an end, nor from there on
pub first_end : (f : ℕ → Bool) (end n : ℕ) → end ≤ n → first_below f end ≡ None → ((i : ℕ) → end ≤ i → i < n → f i ≡ false) → first_below f n ≡ None
unfolding first_below
first_end f end zero within none rest = refl
first_end f end (suc n) within none rest = ⊎_elim
    (λ (past : n < end). let same : suc n ≡ end = omega (arith, past, within) in ap (first_below f) same ∙ none)
    (λ (from : end ≤ n).
    ap (λ o. option_or o (if f n then Some n else None)) (first_end f end n from none (λ i l below. rest i l (omega (arith, below))))
    ∙ ap (λ b. if b then Some n else None) (rest n from (omega arith)))
    (cases_lt n end)

first_stays : (f : ℕ → Bool) (k n j : ℕ) → first_below f n ≡ Some j → first_below f (k + n) ≡ Some j
unfolding first_below
first_stays f zero n j e = let same : 0 + n ≡ n = omega arith in ap (first_below f) same ∙ e
first_stays f (suc k) n j e =
    let next : suc k + n ≡ suc (k + n) = omega arith in
    ap (first_below f) next ∙ ap (λ o. option_or o (if f (k + n) then Some (k + n) else None)) (first_stays f k n j e)

pub first_here : (f : ℕ → Bool) (n m : ℕ) → first_below f n ≡ None → f n ≡ true → n < m → first_below f m ≡ Some n
unfolding first_below
first_here f n m none here l =
    let from : m ≡ m - (n + 1) + (n + 1) = omega (arith, l) in
    ap (first_below f) from
    ∙ first_stays f (m - (n + 1)) (n + 1) n
    (ap (first_below f) (add-one n) ∙ ap (λ o. option_or o (if f n then Some n else None)) none ∙ ap (λ b. if b then Some n else None) here)

pub last_none : (f : ℕ → Bool) → last_below f 0 ≡ None
unfolding last_below
last_none f = refl

pub last_more : (f : ℕ → Bool) (n : ℕ) → last_below f (n + 1) ≡ (if f n then Some n else last_below f n)
unfolding last_below
last_more f n = ap (last_below f) (add-one n)

pub count_none : (f : ℕ → Bool) → count_below f 0 ≡ 0
unfolding count_below
count_none f = refl

pub count_more : (f : ℕ → Bool) (n : ℕ) → count_below f (n + 1) ≡ count_below f n + (if f n then 1 else 0)
unfolding count_below
count_more f n = ap (count_below f) (add-one n)

pub ruleset number_steps = (first_none, first_still, first_here, last_none, last_more, count_none, count_more)
