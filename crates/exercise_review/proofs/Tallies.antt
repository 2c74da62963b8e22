-- How many numbers fall to each place, one number more at a time.
use Rattle.std.proofs.Common.{◌≡◌, ⊎_elim, ℕ, zero, suc, ◌+◌, ◌<◌, ◌≤◌, List, length, Bool, true, false, Option, Some, refl, ap, arith}
use Rattle.std.specs.Prelude.{slice_index_or, if◌then◌else◌}
use Rattle.std.proofs.Math.Numerals.{add-one}
use Rattle.std.proofs.Math.ListN.{get_or-eq_default}
use Rattle.std.proofs.lemmas.Bool.{cases_lt}
use Rattle.siman_pdus.specs.Answers.{same_id}
use Rattle.exercise_review.specs.Counted.{count_below, count_at}

pub count_most : (f : ℕ → Bool) (n : ℕ) → count_below f n ≤ n
unfolding count_below
count_most f zero = omega arith
count_most f (suc n) =
    let before = count_most f n in
    elim (f n) as (λ b. count_below f n + (if b then 1 else 0) ≤ suc n) [ true ↦ omega (arith, before) | false ↦ omega (arith, before) ]

pub count_same : (f g : ℕ → Bool) → ((i : ℕ) → f i ≡ g i) → (n : ℕ) → count_below f n ≡ count_below g n
unfolding count_below
count_same f g same zero = refl
count_same f g same (suc n) =
    let before = count_same f g same n in
    let here = ap {B = ℕ} (λ b. if b then 1 else 0) (same n) in
    omega (arith, before, here)

pub none_counted : (place : ℕ → Option ℕ) (k : ℕ) → count_at place k 0 ≡ 0
unfolding count_at count_below
none_counted place k = refl

pub one_counted : (place : ℕ → Option ℕ) (k n : ℕ) → count_at place k (n + 1) ≡ count_at place k n + (if same_id (place n) (Some k) then 1 else 0)
unfolding count_at count_below
one_counted place k n = ap (count_below (λ i. same_id (place i) (Some k))) (add-one n)

-- there is room for one more at each place
pub room : (place : ℕ → Option ℕ) (n places : ℕ) (counts : List ℕ) → n < 18446744073709551615 → length counts ≡ places
    → ((k : ℕ) → k < places → slice_index_or counts k 0 ≡ count_at place k n) → (k : ℕ) → slice_index_or counts k 0 < 18446744073709551615
unfolding count_at
room place n places counts few count each k = ⊎_elim
    (λ (below : k < places). let most = count_most (λ i. same_id (place i) (Some k)) n in let is = each k below in omega (arith, most, is, few))
    (λ (past : places ≤ k). let none = get_or-eq_default counts 0 {n = k} (omega (arith, past, count)) in omega (arith, none))
    (cases_lt k places)
