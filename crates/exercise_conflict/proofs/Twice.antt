-- Of more numbers than there are below a bound, two are one.
use Rattle.std.proofs.Common.{◌≡◌, ◌≢◌, ◌⊎◌, ⊎_elim, inl, inr, ℕ, zero, suc, ◌<◌, ◌≤◌, cond, true, false, refl, sym, ap, ◌∙◌, arith}
use Rattle.std.specs.Prelude.{nat_eq}
use Rattle.std.proofs.lemmas.Bool.{cases_lt, eqb-true, eq-eqb, ne_eqb}

-- two of the first numbers up to n are one
pub record Meet (f : ℕ → ℕ) (n : ℕ) : Type 0 where
  pub first : ℕ
  pub second : ℕ
  pub later : first < second
  pub within : second ≤ n
  pub same : f first ≡ f second

-- whether one of those up to n is this one
found : (f : ℕ → ℕ) (v n : ℕ) → ((i : ℕ) × (i ≤ n) × (f i ≡ v)) ⊎ ((i : ℕ) → i ≤ n → f i ≢ v)
found f v zero =
    elim (nat_eq (f 0) v) as (λ b. nat_eq (f 0) v ≡ b → ((i : ℕ) × (i ≤ 0) × (f i ≡ v)) ⊎ ((i : ℕ) → i ≤ 0 → f i ≢ v)) [
      | true ↦ λ e. inl (0, omega arith, eqb-true (f 0) v e)
      | false ↦ λ e. inr (λ i le same. let at : i ≡ 0 = omega (arith, le) in absurd (cc (sym e ∙ eq-eqb (f 0) v (ap f (sym at) ∙ same))))
    ] refl
found f v (suc n) =
    ⊎_elim
    (λ (some : (i : ℕ) × (i ≤ n) × (f i ≡ v)). inl (some.0, omega (arith, some.1), some.2))
    (λ (none : (i : ℕ) → i ≤ n → f i ≢ v).
    elim (nat_eq (f (suc n)) v) as (λ b. nat_eq (f (suc n)) v ≡ b → ((i : ℕ) × (i ≤ suc n) × (f i ≡ v)) ⊎ ((i : ℕ) → i ≤ suc n → f i ≢ v)) [
      | true ↦ λ e. inl (suc n, omega arith, eqb-true (f (suc n)) v e)
      | false ↦ λ e. inr (λ i le same. ⊎_elim
          (λ (less : i < suc n). none i (omega (arith, less)) same)
          (λ (most : suc n ≤ i). let at : i ≡ suc n = omega (arith, le, most) in absurd (cc (sym e ∙ eq-eqb (f (suc n)) v (ap f (sym at) ∙ same))))
          (cases_lt i (suc n)))
    ] refl)
    (found f v n)

-- v in the place of n
swapped : (ℕ → ℕ) → ℕ → ℕ → ℕ → ℕ
swapped f n v i = cond (nat_eq (f i) n) v (f i)

swapped_at : (f : ℕ → ℕ) (n v i : ℕ) → f i ≡ n → swapped f n v i ≡ v
unfolding swapped
swapped_at f n v i e = ap (λ b. cond b v (f i)) (eq-eqb (f i) n e)

swapped_other : (f : ℕ → ℕ) (n v i : ℕ) → f i ≢ n → swapped f n v i ≡ f i
unfolding swapped
swapped_other f n v i e = ap (λ b. cond b v (f i)) (ne_eqb (f i) n e)

same_or : (a b : ℕ) → (a ≡ b) ⊎ (a ≢ b)
same_or a b =
    elim (nat_eq a b) as (λ t. nat_eq a b ≡ t → (a ≡ b) ⊎ (a ≢ b)) [
      | true ↦ λ e. inl (eqb-true a b e)
      | false ↦ λ e. inr (λ same. absurd (cc (sym e ∙ eq-eqb a b same)))
    ] refl

swapped_below : (f : ℕ → ℕ) (n : ℕ) → ((i : ℕ) → i ≤ suc n → f i < suc n) → ((i : ℕ) → i ≤ n → f i ≢ f (suc n)) → (i : ℕ) → i ≤ n
    → swapped f n (f (suc n)) i < n
swapped_below f n below apart i le =
    let last : f (suc n) < suc n = below (suc n) (omega arith) in
    let own : f i < suc n = below i (omega (arith, le)) in
    ⊎_elim
    (λ (at : f i ≡ n).
    let other : f (suc n) ≢ n = λ same. apart i le (at ∙ sym same) in
    omega (arith, last, other, swapped_at f n (f (suc n)) i at))
    (λ (off : f i ≢ n). omega (arith, own, off, swapped_other f n (f (suc n)) i off))
    (same_or (f i) n)

swapped_same : (f : ℕ → ℕ) (n i j : ℕ) → f i ≢ f (suc n) → f j ≢ f (suc n) → swapped f n (f (suc n)) i ≡ swapped f n (f (suc n)) j → f i ≡ f j
swapped_same f n i j one other same =
    let v : ℕ = f (suc n) in
    ⊎_elim
    (λ (at : f i ≡ n). ⊎_elim
    (λ (there : f j ≡ n). at ∙ sym there)
    (λ (off : f j ≢ n). absurd (other (sym (swapped_other f n v j off) ∙ sym same ∙ swapped_at f n v i at)))
    (same_or (f j) n))
    (λ (off : f i ≢ n). ⊎_elim
    (λ (there : f j ≡ n). absurd (one (sym (swapped_other f n v i off) ∙ same ∙ swapped_at f n v j there)))
    (λ (far : f j ≢ n). sym (swapped_other f n v i off) ∙ same ∙ swapped_other f n v j far)
    (same_or (f j) n))
    (same_or (f i) n)

-- TWO ARE ONE
pub meet : (f : ℕ → ℕ) (n : ℕ) → ((i : ℕ) → i ≤ n → f i < n) → Meet f n
meet f zero below = absurd (let none : f 0 < 0 = below 0 (omega arith) in omega (arith, none))
meet f (suc n) below =
    ⊎_elim
    (λ (some : (i : ℕ) × (i ≤ n) × (f i ≡ f (suc n))).
    record { first = some.0; second = suc n; later = omega (arith, some.1); within = omega arith; same = some.2 })
    (λ (apart : (i : ℕ) → i ≤ n → f i ≢ f (suc n)).
    let two = meet (swapped f n (f (suc n))) n (swapped_below f n below apart) in
    record {
      first = two.first;
      second = two.second;
      later = two.later;
      within = omega (arith, two.within);
      same = swapped_same f n two.first two.second (apart two.first (omega (arith, two.later, two.within))) (apart two.second two.within) two.same;
    })
    (found f (f (suc n)) n)
