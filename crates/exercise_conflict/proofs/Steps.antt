-- Entries that pass, one entry more at a time.
use Rattle.std.proofs.Common.{◌≡◌, ℕ, zero, suc, ◌+◌, ◌-◌, ◌<◌, Bool, Some, None, true, false, refl, ap, ◌∙◌, arith}
use Rattle.std.specs.Prelude.{if◌then◌else◌}
use Rattle.std.specs.Option.{option_or}
use Rattle.std.proofs.Math.Numerals.{add-one}
use Rattle.exercise_model.specs.Place.{first_below}

pub first_none : (f : ℕ → Bool) → first_below f 0 ≡ None
unfolding first_below
first_none f = refl

pub first_still : (f : ℕ → Bool) (n : ℕ) → first_below f n ≡ None → f n ≡ false → first_below f (n + 1) ≡ None
unfolding first_below
first_still f n none here =
    ap (first_below f) (add-one n) ∙ ap (λ o. option_or o (if f n then Some n else None)) none ∙ ap (λ b. if b then Some n else None) here

first_stays : (f : ℕ → Bool) (k n j : ℕ) → first_below f n ≡ Some j → first_below f (k + n) ≡ Some j
unfolding first_below
first_stays f zero n j e = let same : 0 + n ≡ n = omega arith in ap (first_below f) same ∙ e
first_stays f (suc k) n j e =
    let next : suc k + n ≡ suc (k + n) = omega arith in
    ap (first_below f) next ∙ ap (λ o. option_or o (if f (k + n) then Some (k + n) else None)) (first_stays f k n j e)

pub first_here : (f : ℕ → Bool) (n m : ℕ) → first_below f n ≡ None → f n ≡ true → n < m → first_below f m ≡ Some n
unfolding first_below
first_here f n m none here l =
    let from : m ≡ m - (n + 1) + (n + 1) = omega (arith, l) in
    ap (first_below f) from
    ∙ first_stays f (m - (n + 1)) (n + 1) n
    (ap (first_below f) (add-one n) ∙ ap (λ o. option_or o (if f n then Some n else None)) none ∙ ap (λ b. if b then Some n else None) here)

pub ruleset question_steps = (first_none, first_still, first_here)
