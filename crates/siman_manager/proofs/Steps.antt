-- What one step does to the item at a place.
use Rattle.std.proofs.Common.{◌≡◌, ℕ, zero, suc, ◌+◌, ◌≤◌, List, [], ◌∷◌, ◌++◌, length, set, take, drop, refl, ap, sym, ◌∙◌, arith, add-one}
use Rattle.std.specs.Prelude.{Bool, true, false, ◌&&◌, nat_lt, cond, count_by, slice_get, find, Some, None, option_map, if◌then◌else◌}
use Rattle.std.proofs.lemmas.List.Sums.{sum_by-append}
use Rattle.siman_manager.specs.declared.kept.MadeOrder.{MadeOrder}
use Rattle.siman_manager.specs.declared.kept.OrderStanding.TheVariants as standings
use Rattle.siman_manager.specs.declared.settings.Settings.{Settings}
use Rattle.siman_manager.specs.Book.{changed_through, is_due, is_ready, looked_at, resent, with_stamp, repeated}

-- the walk ends at an item that passes
pub ends_here : {X : Type 0} (p : X → Bool) (f : X → X) (xs : List X) (i : ℕ) (x y : X) → slice_get xs i ≡ Some x → p x ≡ true → y ≡ f x
    → set xs i y ≡ take i xs ++ changed_through p f (drop i xs)
ends_here p f [] i x y at r l = absurd cc
ends_here p f (k ∷ ks) zero x y at r l = let same : k ≡ x = cc in rw (same, r, l) refl
ends_here p f (k ∷ ks) (suc i) x y at r l = ap (λ zs. k ∷ zs) (ends_here p f ks i x y at r l)

-- and finds it
pub found_here : {X : Type 0} (p : X → Bool) (xs : List X) (i : ℕ) (x : X) → slice_get xs i ≡ Some x → p x ≡ true → find p (drop i xs) ≡ Some x
found_here p [] i x at r = absurd cc
found_here p (k ∷ ks) zero x at r = let same : k ≡ x = cc in rw (same, r) refl
found_here p (k ∷ ks) (suc i) x at r = found_here p ks i x at r

-- it goes on past an item that does not
pub goes_on : {X : Type 0} (p : X → Bool) (f : X → X) (xs : List X) (i : ℕ) (x y : X) → slice_get xs i ≡ Some x → p x ≡ false → y ≡ f x
    → take (suc i) (set xs i y) ++ changed_through p f (drop (suc i) (set xs i y)) ≡ take i xs ++ changed_through p f (drop i xs)
goes_on p f [] i x y at r l = absurd cc
goes_on p f (k ∷ ks) zero x y at r l = let same : k ≡ x = cc in rw (same, r, l) refl
goes_on p f (k ∷ ks) (suc i) x y at r l = ap (λ zs. k ∷ zs) (goes_on p f ks i x y at r l)

pub finds_on : {X : Type 0} (p : X → Bool) (xs : List X) (i : ℕ) (x y : X) → slice_get xs i ≡ Some x → p x ≡ false
    → find p (drop (suc i) (set xs i y)) ≡ find p (drop i xs)
finds_on p [] i x y at r = absurd cc
finds_on p (k ∷ ks) zero x y at r = let same : k ≡ x = cc in rw (same, r) refl
finds_on p (k ∷ ks) (suc i) x y at r = finds_on p ks i x y at r

-- and changes nothing more at the end
pub at_end : {X : Type 0} (p : X → Bool) (f : X → X) (xs : List X) (i : ℕ) → length xs ≤ i → take i xs ++ changed_through p f (drop i xs) ≡ xs
at_end p f [] zero h = refl
at_end p f [] (suc i) h = refl
at_end p f (k ∷ ks) zero h = absurd (omega arith)
at_end p f (k ∷ ks) (suc i) h = ap (λ zs. k ∷ zs) (at_end p f ks i (omega arith))

pub finds_none : {X : Type 0} (p : X → Bool) (xs : List X) (i : ℕ) → length xs ≤ i → find p (drop i xs) ≡ None
finds_none p [] zero h = refl
finds_none p [] (suc i) h = refl
finds_none p (k ∷ ks) zero h = absurd (omega arith)
finds_none p (k ∷ ks) (suc i) h = finds_none p ks i (omega arith)

pub slice_get-set : {X : Type 0} (xs : List X) (i : ℕ) (x y : X) → slice_get xs i ≡ Some x → slice_get (set xs i y) i ≡ Some y
slice_get-set [] i x y at = absurd cc
slice_get-set (k ∷ ks) zero x y at = refl
slice_get-set (k ∷ ks) (suc i) x y at = slice_get-set ks i x y at

pub take-one_more : {X : Type 0} (xs : List X) (i : ℕ) (x : X) → slice_get xs i ≡ Some x → take (suc i) xs ≡ take i xs ++ x ∷ []
take-one_more [] i x at = absurd cc
take-one_more (k ∷ ks) zero x at = let same : k ≡ x = cc in ap (λ z. z ∷ []) same
take-one_more (k ∷ ks) (suc i) x at = ap (λ zs. k ∷ zs) (take-one_more ks i x at)

pub count-one_more : {X : Type 0} (p : X → Bool) (xs : List X) (i : ℕ) (x : X) → slice_get xs i ≡ Some x
    → count_by p (take (i + 1) xs) ≡ count_by p (take i xs) + cond (p x) 1 0
count-one_more p xs i x at =
    let zero_first : 0 + cond (p x) 1 0 ≡ cond (p x) 1 0 = omega arith in
    ap (λ n. count_by p (take n xs)) (add-one i) ∙ ap (count_by p) (take-one_more xs i x at) ∙ sum_by-append (λ z. cond (p z) 1 0) (take i xs) (x ∷ []) ∙ ap
    (λ n. count_by p (take i xs) + n) zero_first

pub if_both : {X : Type 0} (a b : Bool) (x y z : X) → (a && b) ≡ true → (if a then (if b then x else y) else z) ≡ x
if_both true true x y z e = refl
if_both true false x y z e = absurd cc
if_both false b x y z e = absurd cc

-- an order that is ready is sent once more
pub looked-ready : (s : Settings) (now stamp : ℕ) (k : MadeOrder) → is_ready s now k ≡ true → looked_at s now stamp k ≡ resent now stamp k
looked-ready s now stamp k e = if_both (is_due s now k) (nat_lt k.sends s.tries) (resent now stamp k) (record k { standing = standings.GivenUp }) k e

-- what the walk sends is what stands where it ended
pub sent_here : (s : Settings) (now stamp : ℕ) (xs : List MadeOrder) (i : ℕ) (x y : MadeOrder) → slice_get xs i ≡ Some x → is_ready s now x ≡ true
    → y ≡ looked_at s now stamp x
    → option_map (λ k. k.pdu) (slice_get (set xs i y) i) ≡ repeated s now stamp (drop i xs)
sent_here s now stamp xs i x y at r l =
    ap (option_map (λ (k : MadeOrder). k.pdu)) (slice_get-set xs i x y at)
    ∙ ap (λ (k : MadeOrder). Some k.pdu) (l ∙ looked-ready s now stamp x r)
    ∙ sym (ap (option_map (λ (k : MadeOrder). with_stamp stamp k.pdu)) (found_here (is_ready s now) xs i x at r))
