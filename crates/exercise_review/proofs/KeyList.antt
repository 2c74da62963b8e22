-- Keys in a list in which no two are the same.
use Rattle.std.proofs.Common.{◌≡◌, ◌⊎◌, inl, inr, ⊎_elim, ℕ, zero, suc, ◌<◌, ◌≤◌, List, [], ◌∷◌, ◌++◌, length, true, false, Some, refl, sym, ap, ◌∙◌, arith}
use Rattle.std.specs.Prelude.{slice_get, nat_eq, position}
use Rattle.std.specs.List.{IsDistinct}
use Rattle.std.proofs.lemmas.Bool.{cases_lt, eqb-true, eq-eqb}
use Rattle.std.proofs.lemmas.List.Quantifiers.{position-Some}
use Rattle.std.proofs.lemmas.Map.Keys.{apart_from_distinct}
use Rattle.std.proofs.lemmas.Option.{same_Some, slice_get-get_or, slice_get_within, get_or_from_slice_get}

-- a key does not stand before another place where it stands
not_before : (ks : List ℕ) (p q k : ℕ) → IsDistinct nat_eq ks → slice_get ks p ≡ Some k → slice_get ks q ≡ Some k → p < q → ⊥
not_before ks p q k distinct at there before =
    let apart = apart_from_distinct nat_eq ks p q 0 distinct before (slice_get_within ks q k there) in
    let left = get_or_from_slice_get ks p k 0 at in
    let right = get_or_from_slice_get ks q k 0 there in
    let same : nat_eq k k ≡ false = ap (λ x. nat_eq x k) (sym left) ∙ ap (nat_eq _) (sym right) ∙ apart in
    let clash : true ≡ false = sym (eq-eqb k k refl) ∙ same in absurd (cc)

-- A KEY STANDS AT ONE PLACE
pub one_place : (ks : List ℕ) (p q k : ℕ) → IsDistinct nat_eq ks → slice_get ks p ≡ Some k → slice_get ks q ≡ Some k → p ≡ q
one_place ks p q k distinct at there =
    ⊎_elim
    (λ (before : p < q). absurd (not_before ks p q k distinct at there before))
    (λ (from : q ≤ p).
    ⊎_elim
    (λ (behind : q < p). absurd (not_before ks q p k distinct there at behind))
    (λ (up : p ≤ q). omega (arith, from, up))
    (cases_lt q p))
    (cases_lt p q)

-- what stands in a list stands there once more has come
pub at_front : (ks : List ℕ) (x p k : ℕ) → slice_get ks p ≡ Some k → slice_get (ks ++ x ∷ []) p ≡ Some k
at_front [] x p k at = absurd (cc)
at_front (y ∷ ks) x zero k at = at
at_front (y ∷ ks) x (suc p) k at = at_front ks x p k at

-- what stands there stood there, or is what came
pub at_either : (ks : List ℕ) (x p k : ℕ) → slice_get (ks ++ x ∷ []) p ≡ Some k → (slice_get ks p ≡ Some k) ⊎ ((p ≡ length ks) × (x ≡ k))
at_either [] x zero k at = inr (refl, same_Some x k at)
at_either [] x (suc p) k at = absurd (cc)
at_either (y ∷ ks) x zero k at = inl at
at_either (y ∷ ks) x (suc p) k at =
    ⊎_elim
    (λ (old : slice_get ks p ≡ Some k). inl old)
    (λ (new : (p ≡ length ks) × (x ≡ k)). inr (ap suc new.0, new.1))
    (at_either ks x p k at)

-- where a key is found it stands
pub found_at : (ks : List ℕ) (k p : ℕ) → position (nat_eq k) ks ≡ Some p → slice_get ks p ≡ Some k
found_at ks k p found =
    let is = position-Some (nat_eq k) ks p 0 found in
    slice_get-get_or ks p 0 is.0 ∙ ap Some (sym (eqb-true k _ is.1))
