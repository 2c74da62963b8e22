-- Items of a list at a place, after one is put, written or changed.
use Rattle.std.proofs.Common.{◌≡◌, ℕ, zero, suc, ◌≤◌, List, [], ◌∷◌, ◌++◌, length, set, refl, ap, sym, ◌∙◌, arith}
use Rattle.std.specs.Prelude.{Bool, true, false, ◌==◌, slice_get, find, Option, Some, None, option_map, if◌then◌else◌}
use Rattle.std.proofs.lemmas.Bool.Decides.{nat_tests}
use Rattle.siman_manager.specs.Book.{changed_through}
use Rattle.siman_manager.specs.Calls.{none_before, passes}

suc-eq-zero : (k : ℕ) → (suc k == 0) ≡ false
suc-eq-zero k = grind (arith, nat_tests)

zero-eq-suc : (k : ℕ) → (0 == suc k) ≡ false
zero-eq-suc k = grind (arith, nat_tests)

suc-eq-suc : (k i : ℕ) → (suc k == suc i) ≡ (k == i)
suc-eq-suc k i = grind (arith, nat_tests)

pub slice_get-append_one : {X : Type 0} (xs : List X) (x : X) (k : ℕ)
    → slice_get (xs ++ x ∷ []) k ≡ (if k == length xs then Some x else slice_get xs k)
slice_get-append_one [] x zero = refl
slice_get-append_one [] x (suc k) = ap (λ (b : Bool). if b then Some x else None) (sym (suc-eq-zero k))
slice_get-append_one (y ∷ ys) x zero = ap (λ (b : Bool). if b then Some x else Some y) (sym (zero-eq-suc (length ys)))
slice_get-append_one (y ∷ ys) x (suc k) =
    slice_get-append_one ys x k ∙ ap (λ (b : Bool). if b then Some x else slice_get ys k) (sym (suc-eq-suc k (length ys)))

pub slice_get-past : {X : Type 0} (xs : List X) (k : ℕ) → length xs ≤ k → slice_get xs k ≡ None
slice_get-past [] k h = refl
slice_get-past (y ∷ ys) zero h = absurd (omega arith)
slice_get-past (y ∷ ys) (suc k) h = slice_get-past ys k (omega arith)

pub option_map-same : {X : Type 0} (o : Option X) → option_map (λ x. x) o ≡ o
option_map-same None = refl
option_map-same (Some x) = refl

pub none_before-same : (f g : ℕ → Bool) → ((j : ℕ) → f j ≡ g j) → (k : ℕ) → none_before f k ≡ none_before g k
none_before-same f g e zero = refl
none_before-same f g e (suc k) =
    ap (λ (b : Bool). if b then false else none_before (λ j. f (suc j)) k) (e zero)
    ∙ ap (λ (b : Bool). if g zero then false else b) (none_before-same (λ j. f (suc j)) (λ j. g (suc j)) (λ j. e (suc j)) k)

-- a walk changes the items up to the first that passes
pub slice_get-changed_through : {X : Type 0} (p : X → Bool) (f : X → X) (xs : List X) (k : ℕ)
    → slice_get (changed_through p f xs) k ≡ option_map (λ x. if none_before (λ j. passes p (slice_get xs j)) k then f x else x) (slice_get xs k)
slice_get-changed_through p f [] k = refl
slice_get-changed_through p f (x ∷ xs) zero = refl
slice_get-changed_through p f (x ∷ xs) (suc k) =
    elim (p x) as (λ b. slice_get (if b then xs else changed_through p f xs) k ≡ option_map
    (λ y. if (if b then false else none_before (λ j. passes p (slice_get xs j)) k) then f y else y) (slice_get xs k))
    [ true ↦ sym (option_map-same (slice_get xs k)) | false ↦ slice_get-changed_through p f xs k ]

pub slice_get-set_none : {X : Type 0} (xs : List X) (i : ℕ) (y : X) (k : ℕ) → slice_get xs k ≡ None → slice_get (set xs i y) k ≡ None
slice_get-set_none [] i y k e = refl
slice_get-set_none (x ∷ xs) zero y zero e = absurd cc
slice_get-set_none (x ∷ xs) zero y (suc k) e = e
slice_get-set_none (x ∷ xs) (suc i) y zero e = absurd cc
slice_get-set_none (x ∷ xs) (suc i) y (suc k) e = slice_get-set_none xs i y k e

pub slice_get-set_at : {X : Type 0} (xs : List X) (i : ℕ) (x y : X) (k : ℕ) → slice_get xs i ≡ Some x
    → slice_get (set xs i y) k ≡ (if k == i then Some y else slice_get xs k)
slice_get-set_at [] i x y k e = absurd cc
slice_get-set_at (z ∷ zs) zero x y zero e = refl
slice_get-set_at (z ∷ zs) zero x y (suc k) e = ap (λ (b : Bool). if b then Some y else slice_get zs k) (sym (suc-eq-zero k))
slice_get-set_at (z ∷ zs) (suc i) x y zero e = ap (λ (b : Bool). if b then Some y else Some z) (sym (zero-eq-suc i))
slice_get-set_at (z ∷ zs) (suc i) x y (suc k) e =
    slice_get-set_at zs i x y k e ∙ ap (λ (b : Bool). if b then Some y else slice_get zs k) (sym (suc-eq-suc k i))

-- the place of the first item that passes
abbrev pub first_place : {X : Type 0} → (X → Bool) → List X → Option ℕ
first_place p [] = None
first_place p (x ∷ xs) = if p x then Some zero else option_map suc (first_place p xs)

abbrev pub item_at : {X : Type 0} → List X → Option ℕ → Option X
item_at xs None = None
item_at xs (Some i) = slice_get xs i

abbrev pub is_place : ℕ → Option ℕ → Bool
is_place k None = false
is_place k (Some i) = k == i

item_at-suc : {X : Type 0} (x : X) (xs : List X) (o : Option ℕ) → item_at (x ∷ xs) (option_map suc o) ≡ item_at xs o
item_at-suc x xs None = refl
item_at-suc x xs (Some i) = refl

is_place-zero : (o : Option ℕ) → is_place zero (option_map suc o) ≡ false
is_place-zero None = refl
is_place-zero (Some i) = zero-eq-suc i

is_place-suc : (k : ℕ) (o : Option ℕ) → is_place (suc k) (option_map suc o) ≡ is_place k o
is_place-suc k None = refl
is_place-suc k (Some i) = suc-eq-suc k i

pub find-at : {X : Type 0} (p : X → Bool) (xs : List X) → find p xs ≡ item_at xs (first_place p xs)
find-at p [] = refl
find-at p (x ∷ xs) =
    elim (p x) as (λ b. (if b then Some x else find p xs) ≡ item_at (x ∷ xs) (if b then Some zero else option_map suc (first_place p xs)))
    [ true ↦ refl | false ↦ find-at p xs ∙ sym (item_at-suc x xs (first_place p xs)) ]

-- the one item that passes before which none does
pub reached_first : {X : Type 0} (p : X → Bool) (xs : List X) (k : ℕ)
    → (if none_before (λ j. passes p (slice_get xs j)) k then passes p (slice_get xs k) else false) ≡ is_place k (first_place p xs)
reached_first p [] k = elim (none_before (λ j. false) k) as (λ b. (if b then false else false) ≡ false) [ true ↦ refl | false ↦ refl ]
reached_first p (x ∷ xs) zero =
    elim (p x) as (λ b. b ≡ is_place zero (if b then Some zero else option_map suc (first_place p xs))) [
      | true ↦ refl
      | false ↦ sym
          (is_place-zero (first_place p xs))
    ]
reached_first p (x ∷ xs) (suc k) =
    elim (p x) as (λ b. (if (if b then false else none_before (λ j. passes p (slice_get xs j)) k) then passes p (slice_get xs k) else false) ≡ is_place (suc k)
    (if b then Some zero else option_map suc (first_place p xs)))
    [ true ↦ sym (suc-eq-zero k) | false ↦ reached_first p xs k ∙ sym (is_place-suc k (first_place p xs)) ]
