-- Lists one after the other, one list more at a time, and room for them.
use Rattle.std.proofs.Common.{◌≡◌, ⊎_elim, ℕ, zero, suc, ◌+◌, ◌-◌, ◌<◌, ◌≤◌, List, [], ◌++◌, length, refl, sym, ap, ◌∙◌, append_assoc, append-nil, subst, arith}
use Rattle.std.specs.Prelude.{Result, Ok, Err, Vec}
use Rattle.std.specs.declared.alloc.Global.{Global}
use Rattle.std.specs.Result.{IsErrAnd}
use Rattle.std.proofs.Math.Numerals.{add-one}
use Rattle.std.proofs.lemmas.Bool.{cases_lt}
use Rattle.std.proofs.lemmas.List.{length-append}
use Rattle.exercise_review.specs.declared.fault.ReviewFault.{ReviewFault}
use Rattle.exercise_review.specs.declared.fault.ReviewFault.TheVariants.{OverLimit, Memory}
use Rattle.exercise_review.specs.Room.{lists_below, AddsWithin, CountsWithin, MakesWithin}

pub lists_none : {X : Type 0} (f : ℕ → List X) → lists_below f 0 ≡ []
unfolding lists_below
lists_none f = refl

pub lists_more : {X : Type 0} (f : ℕ → List X) (n : ℕ) → lists_below f (n + 1) ≡ lists_below f n ++ f n
unfolding lists_below
lists_more f n = ap (lists_below f) (add-one n)

-- further lists only make them longer
longer : {X : Type 0} (f : ℕ → List X) (k d : ℕ) → length (lists_below f k) ≤ length (lists_below f (d + k))
unfolding lists_below
longer f k zero = let same : 0 + k ≡ k = omega arith in omega (arith, ap (λ n. length (lists_below f n)) same)
longer f k (suc d) =
    let next : suc d + k ≡ suc (d + k) = omega arith in
    omega (arith, longer f k d, ap (λ n. length (lists_below f n)) next, length-append (lists_below f (d + k)) (f (d + k)))

-- the lists of all below n are those of all below an end where the rest are empty
pub lists_end : {X : Type 0} (f : ℕ → List X) (end n : ℕ) → end ≤ n → ((i : ℕ) → end ≤ i → i < n → f i ≡ []) → lists_below f end ≡ lists_below f n
unfolding lists_below
lists_end f end zero within none = let same : end ≡ 0 = omega (arith, within) in ap (lists_below f) same
lists_end f end (suc n) within none = ⊎_elim
    (λ (past : n < end). let same : end ≡ suc n = omega (arith, past, within) in ap (lists_below f) same)
    (λ (from : end ≤ n).
    lists_end f end n from (λ i l below. none i l (omega (arith, below)))
    ∙ sym (append-nil (lists_below f n)) ∙ ap (λ xs. lists_below f n ++ xs) (sym (none n from (omega arith))))
    (cases_lt n end)

pub ruleset list_steps = (lists_none, lists_more)

-- the first so many and one more are no more than all of them
pub part_below : {X : Type 0} (f : ℕ → List X) (k n : ℕ) → k < n → length (lists_below f k) + length (f k) ≤ length (lists_below f n)
part_below f k n l =
    let from : n ≡ n - (k + 1) + (k + 1) = omega (arith, l) in
    omega (
      arith,
      longer f (k + 1) (n - (k + 1)),
      ap (λ m. length (lists_below f m)) from,
      ap length (lists_more f k),
      length-append (lists_below f k) (f k),
    )

-- what comes next makes them too many: so are all
too_many : {X : Type 0} (old part : List X) (f : ℕ → List X) (k n most : ℕ) → k < n → part ≡ old ++ lists_below f k
    → most < length part + length (f k) → most < length old + length (lists_below f n)
too_many old part f k n most l same over =
    omega (arith, part_below f k n l, over, ap length same, length-append old (lists_below f k))

ends : {X : Type 0} (old part new last : List X) (f : ℕ → List X) (k n most : ℕ) (e : ReviewFault) → k < n → part ≡ old ++ lists_below f k
    → AddsWithin most part (f k) (Err e) new → AddsWithin most old (lists_below f n) (Err e) last
ends old part new last f k n most OverLimit l same over = too_many old part f k n most l same over
ends old part new last f k n most Memory l same over = tt

pub room_ends : {X : Type 0} (old part new last : List X) (f : ℕ → List X) (k n most : ℕ) (e : ReviewFault) (result : Result (Unit {0}) ReviewFault)
    → IsErrAnd result (λ x. x ≡ e) → k < n → part ≡ old ++ lists_below f k → AddsWithin most part (f k) (Err e) new
    → AddsWithin most old (lists_below f n) result last
room_ends old part new last f k n most e (Ok x) is l same over = absurd is
room_ends old part new last f k n most e (Err x) is l same over =
    subst (λ y. AddsWithin most old (lists_below f n) (Err y) last) (sym is) (ends old part new last f k n most e l same over)

-- what was there, before the first list
pub room_begins : {X : Type 0} (old : List X) (f : ℕ → List X) → old ≡ old ++ lists_below f 0
room_begins old f = sym (append-nil old) ∙ ap (λ xs. old ++ xs) (sym (lists_none f))

-- what came next stands behind
pub room_goes_on : {X : Type 0} (old part new : List X) (f : ℕ → List X) (k : ℕ) → part ≡ old ++ lists_below f k → new ≡ part ++ f k
    → new ≡ old ++ lists_below f (k + 1)
room_goes_on old part new f k before here =
    here ∙ ap (λ xs. xs ++ f k) before ∙ append_assoc old (lists_below f k) (f k) ∙ ap (λ xs. old ++ xs) (sym (lists_more f k))

-- ---- a count

pub count_begins : {X : Type 0} (before : ℕ) (f : ℕ → List X) → before ≡ before + length (lists_below f 0)
count_begins before f = omega (arith, ap length (lists_none f))

pub count_goes_on : {X : Type 0} (before part new : ℕ) (f : ℕ → List X) (k : ℕ) → part ≡ before + length (lists_below f k) → new ≡ part + length (f k)
    → new ≡ before + length (lists_below f (k + 1))
count_goes_on before part new f k was here = omega (arith, was, here, ap length (lists_more f k), length-append (lists_below f k) (f k))

pub count_ends : {X : Type 0} (before part : ℕ) (f : ℕ → List X) (k n most : ℕ) (e : ReviewFault) (result : Result ℕ ReviewFault)
    → IsErrAnd result (λ x. x ≡ e) → k < n → part ≡ before + length (lists_below f k) → CountsWithin most part (f k) (Err e)
    → CountsWithin most before (lists_below f n) result
count_ends before part f k n most e (Ok x) is l was over = absurd is
count_ends {X = X} before part f k n most e (Err x) is l was over =
    subst (λ y. CountsWithin {X = X} most before (lists_below f n) (Err y)) (sym is) (of_fault e over)
  where
    of_fault : (d : ReviewFault) → CountsWithin {X = X} most part (f k) (Err d) → CountsWithin {X = X} most before (lists_below f n) (Err d)
    of_fault OverLimit many = omega (arith, part_below f k n l, many, was)
    of_fault Memory many = tt

-- as many of what they are told as of what is counted
pub counts_same : {X Y : Type 0} (xs : List X) (ys : List Y) (most before : ℕ) (result : Result ℕ ReviewFault) → length xs ≡ length ys
    → CountsWithin most before xs result → CountsWithin most before ys result
counts_same xs ys most before (Ok n) same counted = (omega (arith, same, counted.0), counted.1)
counts_same xs ys most before (Err OverLimit) same over = omega (arith, same, over)
counts_same xs ys most before (Err Memory) same over = tt

-- ---- a list that is made

pub list_made : {X : Type 0} (old xs ys new : List X) (most : ℕ) → old ≡ [] → xs ≡ ys → (new ≡ old ++ xs) × (length new ≤ most)
    → (new ≡ ys) × (length ys ≤ most)
list_made old xs ys new most none same made =
    let is : new ≡ ys = made.0 ∙ ap (λ zs. zs ++ xs) none ∙ same in
    (is, omega (arith, made.1, ap length is))

not_made : {X : Type 0} (old xs ys new : List X) (most : ℕ) (e : ReviewFault) → old ≡ [] → xs ≡ ys → AddsWithin most old xs (Err e) new
    → MakesWithin {X = X} most ys (Err e)
not_made old xs ys new most OverLimit none same over = omega (arith, over, ap length none, ap length same)
not_made old xs ys new most Memory none same over = tt

pub list_unmade : {X : Type 0} (old xs ys new : List X) (most : ℕ) (e : ReviewFault) (result : Result (Vec X Global) ReviewFault) → IsErrAnd result (λ x. x ≡ e)
    → old ≡ [] → xs ≡ ys → AddsWithin most old xs (Err e) new → MakesWithin most ys result
list_unmade old xs ys new most e (Ok x) is none same over = absurd is
list_unmade {X = X} old xs ys new most e (Err x) is none same over =
    subst (λ y. MakesWithin {X = X} most ys (Err y)) (sym is) (not_made old xs ys new most e none same over)
