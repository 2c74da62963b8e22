-- A walk passes orders that are not due.
use Rattle.std.proofs.Common.{◌≡◌, ℕ, zero, suc, ◌+◌, ◌*◌, ◌<◌, ◌≤◌, List, [], ◌∷◌, ◌++◌, length, take, drop, refl, ap, sym, ◌∙◌, arith, inl, inr}
use Rattle.std.specs.Prelude.{Bool, false, ◌&&◌, nat_lt, slice_get, find, Some, None, option_map, if◌then◌else◌, ◌⊎◌}
use Rattle.siman_manager.specs.declared.kept.MadeOrder.{MadeOrder}
use Rattle.siman_manager.specs.declared.kept.OrderStanding.TheVariants as standings
use Rattle.siman_manager.specs.declared.settings.Settings.{Settings}
use Rattle.siman_manager.specs.Book.{is_due, is_ready, looked_at, resent, changed_through, with_stamp}
use Rattle.siman_manager.specs.Blocks.{IsQuiet, AreBlocks, ticked_from, repeated_from}
use Rattle.siman_manager.proofs.Steps.{at_end, finds_none}

-- each item between two places does not pass, and stays
abbrev pub ArePassed : {X : Type 0} → (X → Bool) → (X → X) → List X → ℕ → ℕ → Type 0
ArePassed {X} p f xs i j = (q : ℕ) (x : X) → slice_get xs q ≡ Some x → i ≤ q → q < j → (p x ≡ false) × (f x ≡ x)

passed-next : {X : Type 0} (p : X → Bool) (f : X → X) (x : X) (xs : List X) (i j : ℕ) → ArePassed p f (x ∷ xs) (suc i) (suc j) → ArePassed p f xs i j
passed-next p f x xs i j are q y at low high = are (suc q) y at (omega arith) (omega arith)

passed-first : {X : Type 0} (p : X → Bool) (f : X → X) (x : X) (xs : List X) (j : ℕ) → ArePassed p f (x ∷ xs) zero (suc j) → ArePassed p f xs zero j
passed-first p f x xs j are q y at low high = are (suc q) y at (omega arith) (omega arith)

pub goes_past : {X : Type 0} (p : X → Bool) (f : X → X) (xs : List X) (i j : ℕ) → i ≤ j → ArePassed p f xs i j
    → take j xs ++ changed_through p f (drop j xs) ≡ take i xs ++ changed_through p f (drop i xs)
goes_past p f [] zero zero h are = refl
goes_past p f [] zero (suc j) h are = refl
goes_past p f [] (suc i) zero h are = refl
goes_past p f [] (suc i) (suc j) h are = refl
goes_past p f (x ∷ xs) zero zero h are = refl
goes_past p f (x ∷ xs) zero (suc j) h are =
    let stays : (p x ≡ false) × (f x ≡ x) = are zero x refl (omega arith) (omega arith) in
    ap (λ zs. x ∷ zs) (goes_past p f xs zero j (omega arith) (passed-first p f x xs j are))
    ∙ sym (ap (λ (b : Bool). f x ∷ (if b then xs else changed_through p f xs)) stays.0 ∙ ap (λ (z : _). z ∷ changed_through p f xs) stays.1)
goes_past p f (x ∷ xs) (suc i) zero h are = absurd (omega arith)
goes_past p f (x ∷ xs) (suc i) (suc j) h are = ap (λ zs. x ∷ zs) (goes_past p f xs i j (omega arith) (passed-next p f x xs i j are))

pub finds_past : {X : Type 0} (p : X → Bool) (f : X → X) (xs : List X) (i j : ℕ) → i ≤ j → ArePassed p f xs i j → find p (drop j xs) ≡ find p (drop i xs)
finds_past p f [] zero zero h are = refl
finds_past p f [] zero (suc j) h are = refl
finds_past p f [] (suc i) zero h are = refl
finds_past p f [] (suc i) (suc j) h are = refl
finds_past p f (x ∷ xs) zero zero h are = refl
finds_past p f (x ∷ xs) zero (suc j) h are =
    let stays : (p x ≡ false) × (f x ≡ x) = are zero x refl (omega arith) (omega arith) in
    finds_past p f xs zero j (omega arith) (passed-first p f x xs j are) ∙ sym (ap (λ (b : Bool). if b then Some x else find p xs) stays.0)
finds_past p f (x ∷ xs) (suc i) zero h are = absurd (omega arith)
finds_past p f (x ∷ xs) (suc i) (suc j) h are = finds_past p f xs i j (omega arith) (passed-next p f x xs i j are)

-- A block of which no order is due.

not_due_stays : (s : Settings) (now stamp : ℕ) (k : MadeOrder) → is_due s now k ≡ false → (is_ready s now k ≡ false) × (looked_at s now stamp k ≡ k)
not_due_stays s now stamp k e = (
  ap (λ (b : Bool). b && nat_lt k.sends s.tries) e,
  ap (λ (b : Bool). if b then (if nat_lt k.sends s.tries then resent now stamp k else record k { standing = standings.GivenUp }) else k) e,
)

block_passed : (s : Settings) (now stamp b time : ℕ) (times : List ℕ) (xs : List MadeOrder) → AreBlocks s times xs → slice_get times b ≡ Some time → now < time
    → ArePassed (is_ready s now) (looked_at s now stamp) xs (64 * b) (64 * b + 64)
block_passed s now stamp b time times xs are at_time below q x at low high =
    not_due_stays s now stamp x (are.quiet b time q x at_time at low high now below)

pub passes_block : (s : Settings) (now stamp b time : ℕ) (times : List ℕ) (xs : List MadeOrder) → AreBlocks s times xs → slice_get times b ≡ Some time
    → now < time
    → ticked_from s now stamp (64 * b + 64) xs ≡ ticked_from s now stamp (64 * b) xs
passes_block s now stamp b time times xs are at_time below =
    goes_past (is_ready s now) (looked_at s now stamp) xs (64 * b) (64 * b + 64) (omega arith) (block_passed s now stamp b time times xs are at_time below)

pub finds_past_block : (s : Settings) (now stamp b time : ℕ) (times : List ℕ) (xs : List MadeOrder) → AreBlocks s times xs → slice_get times b ≡ Some time
    → now < time
    → repeated_from s now stamp (64 * b + 64) xs ≡ repeated_from s now stamp (64 * b) xs
finds_past_block s now stamp b time times xs are at_time below =
    ap (option_map (λ (k : MadeOrder). with_stamp stamp k.pdu))
    (finds_past (is_ready s now) (looked_at s now stamp) xs (64 * b) (64 * b + 64) (omega arith) (block_passed s now stamp b time times xs are at_time below))

-- From any place past the end on a walk does nothing.

pub ticked-end : (s : Settings) (now stamp i : ℕ) (xs : List MadeOrder) → length xs ≤ i → ticked_from s now stamp i xs ≡ xs
ticked-end s now stamp i xs h = at_end (is_ready s now) (looked_at s now stamp) xs i h

pub repeated-end : (s : Settings) (now stamp i : ℕ) (xs : List MadeOrder) → length xs ≤ i → repeated_from s now stamp i xs ≡ None
repeated-end s now stamp i xs h = ap (option_map (λ (k : MadeOrder). with_stamp stamp k.pdu)) (finds_none (is_ready s now) xs i h)

-- the places of the block that begins at `first` end here
abbrev pub EndsBlock : ℕ → ℕ → ℕ → Type 0
EndsBlock first count end = (end ≡ first + 64) ⊎ (end ≡ count) × (count ≤ first + 64)

pub ticked-block_end : (s : Settings) (now stamp first count end next : ℕ) (xs : List MadeOrder) → EndsBlock first count end → count ≡ length xs
    → next ≡ first + 64
    → ticked_from s now stamp next xs ≡ ticked_from s now stamp end xs
ticked-block_end s now stamp first count end next xs ends len is =
    elim ends [
      | inl whole ↦ ap (λ (i : ℕ). ticked_from s now stamp i xs) (is ∙ sym whole)
      | inr part ↦ ticked-end s now stamp next xs (omega (arith, part.1, len, is)) ∙ sym (ticked-end s now stamp end xs (omega (arith, part.0, len)))
    ]

pub repeated-block_end : (s : Settings) (now stamp first count end next : ℕ) (xs : List MadeOrder) → EndsBlock first count end → count ≡ length xs
    → next ≡ first + 64
    → repeated_from s now stamp next xs ≡ repeated_from s now stamp end xs
repeated-block_end s now stamp first count end next xs ends len is =
    elim ends [
      | inl whole ↦ ap (λ (i : ℕ). repeated_from s now stamp i xs) (is ∙ sym whole)
      | inr part ↦ repeated-end s now stamp next xs (omega (arith, part.1, len, is)) ∙ sym (repeated-end s now stamp end xs (omega (arith, part.0, len)))
    ]

slice_get-within : {X : Type 0} (xs : List X) (p : ℕ) (x : X) → slice_get xs p ≡ Some x → p < length xs
slice_get-within [] p x e = absurd cc
slice_get-within (y ∷ ys) zero x e = omega arith
slice_get-within (y ∷ ys) (suc p) x e = omega (arith, slice_get-within ys p x e)

pub quiet-block_end : (s : Settings) (time first count end : ℕ) (xs : List MadeOrder) → EndsBlock first count end → count ≡ length xs
    → ((p : ℕ) (k : MadeOrder) → first ≤ p → p < end → slice_get xs p ≡ Some k → IsQuiet s time k)
    → (p : ℕ) (k : MadeOrder) → first ≤ p → p < first + 64 → slice_get xs p ≡ Some k → IsQuiet s time k
quiet-block_end s time first count end xs ends len quiet p k low high at =
    elim ends [
      | inl whole ↦ quiet p k low (omega (arith, whole, high)) at
      | inr part ↦ quiet p k low (omega (arith, part.0, len, slice_get-within xs p k at)) at
    ]
