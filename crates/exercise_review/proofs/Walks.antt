-- A way back through the entries under a key, and what it leaves out.
use Rattle.std.proofs.Common.{◌≡◌, ℕ, zero, suc, ◌+◌, ◌<◌, Bool, true, false, Option, Some, None, refl, sym, ap, ◌∙◌, arith}
use Rattle.std.specs.Prelude.{IfSome, is_some, if◌then◌else◌}
use Rattle.std.specs.Option.{option_or}
use Rattle.std.proofs.lemmas.Option.{same_Some}
use Rattle.exercise_model.specs.Place.{first_below}
use Rattle.exercise_review.specs.Counted.{last_below, count_below}

-- the last below n lies below n, and passes
pub last_found : (h : ℕ → Bool) (n j : ℕ) → last_below h n ≡ Some j → (j < n) × (h j ≡ true)
unfolding last_below
last_found h zero j e = absurd (cc)
last_found h (suc n) j e =
    elim (h n) as (λ b. h n ≡ b → (if b then Some n else last_below h n) ≡ Some j → (j < suc n) × (h j ≡ true)) [
      | true ↦ λ passes e. let same : n ≡ j = same_Some n j e in (omega (arith, same), ap h (sym same) ∙ passes)
      | false ↦ λ _ e. let before = last_found h n j e in (omega (arith, before.0), before.1)
    ] refl e

-- what is past an entry on the way, or none
abbrev pub past : Option ℕ → ℕ
past None = 0
past (Some j) = suc j

-- what a number that does not pass leaves as it is, is the same right behind the last number that has the key
pub jump : {X : Type 0} (F : ℕ → X) (f h : ℕ → Bool) → ((i : ℕ) → f i ≡ true → h i ≡ true) → ((i : ℕ) → f i ≡ false → F (suc i) ≡ F i)
    → (n : ℕ) → F n ≡ F (past (last_below h n))
unfolding last_below
jump F f h under still zero = refl
jump F f h under still (suc n) =
    elim (h n) as (λ b. h n ≡ b → F (suc n) ≡ F (past (if b then Some n else last_below h n))) [
      | true ↦ λ _. refl
      | false ↦ λ none.
          elim (f n) as (λ c. f n ≡ c → F (suc n) ≡ F (past (last_below h n))) [
            | true ↦ λ here. absurd (let no : true ≡ false = sym (under n here) ∙ none in cc)
            | false ↦ λ here. still n here ∙ jump F f h under still n
          ] refl
    ] refl

-- ---- the three searches

pub first_still : (f : ℕ → Bool) (i : ℕ) → f i ≡ false → first_below f (suc i) ≡ first_below f i
unfolding first_below
first_still f i e = ap (λ b. option_or (first_below f i) (if b then Some i else None)) e ∙ nothing (first_below f i)
  where
    nothing : (o : Option ℕ) → option_or o None ≡ o
    nothing None = refl
    nothing (Some x) = refl

last_still : (f : ℕ → Bool) (i : ℕ) → f i ≡ false → last_below f (suc i) ≡ last_below f i
unfolding last_below
last_still f i e = ap (λ b. if b then Some i else last_below f i) e

pub count_still : (f : ℕ → Bool) (i : ℕ) → f i ≡ false → count_below f (suc i) ≡ count_below f i
unfolding count_below
count_still f i e = let more = ap (λ b. count_below f i + (if b then 1 else 0)) e in omega (arith, more)

-- the first of all is the first up to an entry on the way, else the one found behind
abbrev pub IsFirstOn : (ℕ → Bool) → (n : ℕ) → (next first : Option ℕ) → Type 0
IsFirstOn f n next first = first_below f n ≡ option_or (first_below f (past next)) first

abbrev pub IsLastOn : (ℕ → Bool) → (n : ℕ) → (next : Option ℕ) → Type 0
IsLastOn f n next = last_below f n ≡ last_below f (past next)

abbrev pub IsCountOn : (ℕ → Bool) → (n : ℕ) → (next : Option ℕ) → ℕ → Type 0
IsCountOn f n next count = count_below f n ≡ count_below f (past next) + count

-- the way is at an entry below n that has the key
abbrev pub IsOn : (ℕ → Bool) → (n : ℕ) → Option ℕ → Type 0
IsOn h n next = IfSome next (λ j. (j < n) × (h j ≡ true))

pub on_last : (h : ℕ → Bool) (n m : ℕ) (next : Option ℕ) → next ≡ last_below h m → m < n + 1 → IsOn h n next
on_last h n m None e l = tt
on_last h n m (Some j) e l = let found = last_found h m j (sym e) in (omega (arith, found.0, l), found.1)

pub lower : (h : ℕ → Bool) (m : ℕ) (next : Option ℕ) → next ≡ last_below h m → past next < m + 1
lower h m None e = omega arith
lower h m (Some j) e = let found = last_found h m j (sym e) in omega (arith, found.0)

pub first_starts : (f h : ℕ → Bool) (n : ℕ) (next : Option ℕ) → ((i : ℕ) → f i ≡ true → h i ≡ true) → next ≡ last_below h n → IsFirstOn f n next None
first_starts f h n next under e =
    jump (first_below f) f h under (first_still f) n ∙ ap (λ o. first_below f (past o)) (sym e) ∙ sym (nothing (first_below f (past next)))
  where
    nothing : (o : Option ℕ) → option_or o None ≡ o
    nothing None = refl
    nothing (Some x) = refl

chain : (o p q : Option ℕ) → option_or (option_or o p) q ≡ option_or o (option_or p q)
chain None p q = refl
chain (Some x) p q = refl

pub first_on : (f h : ℕ → Bool) (n j : ℕ) (next first : Option ℕ) → ((i : ℕ) → f i ≡ true → h i ≡ true) → next ≡ last_below h j
    → IsFirstOn f n (Some j) first → IsFirstOn f n next (option_or (if f j then Some j else None) first)
unfolding first_below
first_on f h n j next first under e so_far =
    so_far ∙ chain (first_below f j) (if f j then Some j else None) first
    ∙ ap (λ o. option_or o (option_or (if f j then Some j else None) first))
    (jump (first_below f) f h under (first_still f) j ∙ ap (λ o. first_below f (past o)) (sym e))

pub first_passes : (f h : ℕ → Bool) (n j : ℕ) (next first : Option ℕ) → ((i : ℕ) → f i ≡ true → h i ≡ true) → next ≡ last_below h j
    → f j ≡ true → IsFirstOn f n (Some j) first → IsFirstOn f n next (Some j)
first_passes f h n j next first under e passes so_far =
    first_on f h n j next first under e so_far ∙ ap (λ b. option_or (first_below f (past next)) (option_or (if b then Some j else None) first)) passes

pub first_fails : (f h : ℕ → Bool) (n j : ℕ) (next first : Option ℕ) → ((i : ℕ) → f i ≡ true → h i ≡ true) → next ≡ last_below h j
    → f j ≡ false → IsFirstOn f n (Some j) first → IsFirstOn f n next first
first_fails f h n j next first under e fails so_far =
    first_on f h n j next first under e so_far ∙ ap (λ b. option_or (first_below f (past next)) (option_or (if b then Some j else None) first)) fails

pub first_ends : (f : ℕ → Bool) (n : ℕ) (first : Option ℕ) → IsFirstOn f n None first → first ≡ first_below f n
unfolding first_below
first_ends f n first so_far = sym so_far

pub last_starts : (f h : ℕ → Bool) (n : ℕ) (next : Option ℕ) → ((i : ℕ) → f i ≡ true → h i ≡ true) → next ≡ last_below h n → IsLastOn f n next
last_starts f h n next under e = jump (last_below f) f h under (last_still f) n ∙ ap (λ o. last_below f (past o)) (sym e)

pub last_fails : (f h : ℕ → Bool) (n j : ℕ) (next : Option ℕ) → ((i : ℕ) → f i ≡ true → h i ≡ true) → next ≡ last_below h j
    → f j ≡ false → IsLastOn f n (Some j) → IsLastOn f n next
last_fails f h n j next under e fails so_far =
    so_far ∙ last_still f j fails ∙ jump (last_below f) f h under (last_still f) j ∙ ap (λ o. last_below f (past o)) (sym e)

pub last_passes : (f : ℕ → Bool) (n j : ℕ) → f j ≡ true → IsLastOn f n (Some j) → Some j ≡ last_below f n
unfolding last_below
last_passes f n j passes so_far = sym (so_far ∙ ap (λ b. if b then Some j else last_below f j) passes)

pub last_ends : (f : ℕ → Bool) (n : ℕ) → IsLastOn f n None → None ≡ last_below f n
unfolding last_below
last_ends f n so_far = sym so_far

-- the last of all is the last that was found behind an entry on the way, else the last up to it
abbrev pub IsLatestOn : (ℕ → Bool) → (n : ℕ) → (next last : Option ℕ) → Type 0
IsLatestOn f n next last = last_below f n ≡ option_or last (last_below f (past next))

pub latest_starts : (f h : ℕ → Bool) (n : ℕ) (next : Option ℕ) → ((i : ℕ) → f i ≡ true → h i ≡ true) → next ≡ last_below h n → IsLatestOn f n next None
latest_starts f h n next under e = last_starts f h n next under e

pub latest_on : (f h : ℕ → Bool) (n j : ℕ) (next last : Option ℕ) → ((i : ℕ) → f i ≡ true → h i ≡ true) → next ≡ last_below h j
    → IsLatestOn f n (Some j) last → IsLatestOn f n next (option_or last (if f j then Some j else None))
unfolding last_below
latest_on f h n j next last under e so_far =
    so_far
    ∙ ap (λ x. option_or last (if f j then Some j else x)) (jump (last_below f) f h under (last_still f) j ∙ ap (λ o. last_below f (past o)) (sym e))
    ∙ chosen (f j) last
  where
    chosen : (b : Bool) (o : Option ℕ)
        → option_or o (if b then Some j else last_below f (past next)) ≡ option_or (option_or o (if b then Some j else None)) (last_below f (past next))
    chosen true None = refl
    chosen true (Some x) = refl
    chosen false None = refl
    chosen false (Some x) = refl

pub latest_ends : (f : ℕ → Bool) (n : ℕ) (last : Option ℕ) → IsLatestOn f n None last → last ≡ last_below f n
unfolding last_below
latest_ends f n last so_far = sym (so_far ∙ nothing last)
  where
    nothing : (o : Option ℕ) → option_or o None ≡ o
    nothing None = refl
    nothing (Some x) = refl

-- where none passes up to n there is neither a first nor a last
pub found_alike : (f : ℕ → Bool) (n : ℕ) → is_some (last_below f n) ≡ is_some (first_below f n)
unfolding last_below first_below
found_alike f zero = refl
found_alike f (suc n) = elim (f n) as (λ b. is_some (if b then Some n else last_below f n) ≡ is_some (option_or (first_below f n) (if b then Some n else None))) [
  | true ↦ elim (first_below f n) as (λ o. true ≡ is_some (option_or o (Some n))) [ None ↦ refl | Some x ↦ refl ]
  | false ↦ found_alike f n ∙ elim (first_below f n) as (λ o. is_some o ≡ is_some (option_or o None)) [ None ↦ refl | Some x ↦ refl ]
]

pub count_starts : (f h : ℕ → Bool) (n : ℕ) (next : Option ℕ) → ((i : ℕ) → f i ≡ true → h i ≡ true) → next ≡ last_below h n → IsCountOn f n next 0
count_starts f h n next under e =
    let jumped = jump (count_below f) f h under (count_still f) n ∙ ap (λ o. count_below f (past o)) (sym e) in
    omega (arith, jumped)

pub count_on : (f h : ℕ → Bool) (n j count : ℕ) (next : Option ℕ) → ((i : ℕ) → f i ≡ true → h i ≡ true) → next ≡ last_below h j
    → IsCountOn f n (Some j) count → count_below f n ≡ count_below f (past next) + (if f j then 1 else 0) + count
unfolding count_below
count_on f h n j count next under e so_far =
    let jumped = jump (count_below f) f h under (count_still f) j ∙ ap (λ o. count_below f (past o)) (sym e) in
    omega (arith, jumped, so_far)

pub count_passes : (f h : ℕ → Bool) (n j count : ℕ) (next : Option ℕ) → ((i : ℕ) → f i ≡ true → h i ≡ true) → next ≡ last_below h j
    → f j ≡ true → IsCountOn f n (Some j) count → IsCountOn f n next (count + 1)
count_passes f h n j count next under e passes so_far =
    let on = count_on f h n j count next under e so_far in
    let one = ap (λ b. count_below f (past next) + (if b then 1 else 0) + count) passes in
    omega (arith, on, one)

pub count_fails : (f h : ℕ → Bool) (n j count : ℕ) (next : Option ℕ) → ((i : ℕ) → f i ≡ true → h i ≡ true) → next ≡ last_below h j
    → f j ≡ false → IsCountOn f n (Some j) count → IsCountOn f n next count
count_fails f h n j count next under e fails so_far =
    let on = count_on f h n j count next under e so_far in
    let none = ap (λ b. count_below f (past next) + (if b then 1 else 0) + count) fails in
    omega (arith, on, none)

pub count_ends : (f : ℕ → Bool) (n count : ℕ) → IsCountOn f n None count → count ≡ count_below f n
unfolding count_below
count_ends f n count so_far = omega (arith, so_far)
