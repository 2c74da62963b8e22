-- The first bytes of others, and what stands in them.
use Rattle.std.proofs.Common.{◌≡◌, ℕ, zero, suc, ◌+◌, ◌-◌, ◌≤◌, Bool, true, false, ◌&&◌, ◌||◌, List, [], ◌∷◌, length, take, drop, refl, sym, ap, arith}
use Rattle.std.proofs.lemmas.Bool.{leb-true, le-leb}
use Rattle.std.proofs.lemmas.List.{take-take, length-take}
use Rattle.std.specs.Prelude.{nat_le, Some, None, if◌then◌else◌}
use Rattle.std.specs.Int.{Width, byte_len}
use Rattle.packet_captures.specs.NetworkOrder.{number_at, number_if}
use Rattle.packet_captures.specs.Cutting.{IsIfKnown}

pub take_front : (n k : ℕ) (b : List ℕ) → take n (take k b) ≡ take k (take n b)
take_front zero zero b = refl
take_front zero (suc k) b = refl
take_front (suc n) zero b = refl
take_front (suc n) (suc k) [] = refl
take_front (suc n) (suc k) (x ∷ b) = ap (λ l. x ∷ l) (take_front n k b)

none_front : (n : ℕ) → let none : List ℕ = [] in take n none ≡ none
none_front zero = refl
none_front (suc n) = refl

pub drop_front : (n k : ℕ) (b : List ℕ) → drop n (take k b) ≡ take (k - n) (drop n b)
drop_front zero k b = let e : k - 0 ≡ k = omega arith in rw e refl
drop_front (suc n) zero b = let e : 0 - suc n ≡ 0 = omega arith in rw e refl
drop_front (suc n) (suc k) [] = sym (none_front (suc k - suc n))
drop_front (suc n) (suc k) (x ∷ b) = let e : suc k - suc n ≡ k - n = omega arith in rw e (drop_front n k b)

-- no more are in front than there are
pub front_length : (n k : ℕ) (b : List ℕ) → n ≤ length (take k b) → (n ≤ k) × (n ≤ length b)
front_length n k b there = let e = length-take k b in (omega arith, omega arith)

-- a number that stands in the front
pub number_front : (w : Width) (at k : ℕ) (b : List ℕ) → at + byte_len w ≤ k → number_at w at (take k b) ≡ number_at w at b
unfolding number_at
number_front w at k b within =
    let inner : byte_len w ≤ k - at = omega arith in
    rw (drop_front at k b, take-take (byte_len w) (k - at) (drop at b) inner) refl

-- tests on what is there: they hold of more bytes too
pub or_front : (p q r s : Bool) → (p ≡ true → r ≡ true) → (q ≡ true → s ≡ true) → (p || q) ≡ true → (r || s) ≡ true
or_front true q r s left right either = rw (left refl) refl
or_front false q true s left right either = refl
or_front false q false s left right either = right either

pub and_front : (size k : ℕ) (b : List ℕ) (p q : Bool) → (size ≤ k → p ≡ true → q ≡ true)
    → (nat_le size (length (take k b)) && p) ≡ true → (nat_le size (length b) && q) ≡ true
and_front size k b p q holds both =
    let parts = halves (nat_le size (length (take k b))) p both in
    let there = front_length size k b (leb-true size (length (take k b)) parts.0) in
    rw (le-leb size (length b) there.1, holds there.0 parts.1) refl
  where
    halves : (x y : Bool) → (x && y) ≡ true → (x ≡ true) × (y ≡ true)
    halves true y h = (refl, h)
    halves false y h = absurd (cc)

-- a number that is known is known of more bytes
pub known_front : (w : Width) (at k : ℕ) (b : List ℕ) → IsIfKnown (number_if w at (take k b)) (number_if w at b)
known_front w at k b = by_test (nat_le (at + byte_len w) (length (take k b))) refl
  where
    by_test : (t : Bool) → nat_le (at + byte_len w) (length (take k b)) ≡ t → IsIfKnown (if t then Some (number_at w at (take k b)) else None) (number_if w at b)
    by_test false e = tt
    by_test true e =
        let there = front_length (at + byte_len w) k b (leb-true (at + byte_len w) (length (take k b)) e) in
        rw (le-leb (at + byte_len w) (length b) there.1, number_front w at k b there.0) refl
