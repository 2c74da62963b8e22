-- Concatenated lists, and lists of limited length (profile).
use Rattle.std.specs.Prelude.{◌≡◌, ℕ, zero, suc, ◌+◌, ◌<◌, ◌≤◌, List, [], ◌++◌, length, Result, Ok, Err, Vec}
use Rattle.std.specs.declared.alloc.Global.{Global}
use Rattle.exercise_review.specs.declared.fault.ReviewFault.{ReviewFault}
use Rattle.exercise_review.specs.declared.fault.ReviewFault.TheVariants.{OverLimit, Memory}

-- the lists that a function gives for 0, 1 and so on below n, one after the other
unfoldable pub lists_below : {X : Type 0} → (ℕ → List X) → ℕ → List X
lists_below f zero = []
lists_below f (suc n) = lists_below f n ++ f n

-- A LIST WITH NEW ITEMS appended, of at most `most` items in all; OverLimit means that these would be more; Memory says
-- nothing
abbrev pub AddsWithin : {X : Type 0} → (most : ℕ) → (old added : List X) → Result (Unit {0}) ReviewFault → (new : List X) → Type 0
AddsWithin most old added (Ok x) new = (new ≡ old ++ added) × (length new ≤ most)
AddsWithin most old added (Err OverLimit) new = most < length old + length added
AddsWithin most old added (Err Memory) new = Unit {0}

-- A COUNT INCREASED by the number of new items, at most `most`; OverLimit means that it would be more; Memory says
-- nothing
abbrev pub CountsWithin : {X : Type 0} → (most before : ℕ) → (added : List X) → Result ℕ ReviewFault → Type 0
CountsWithin most before added (Ok count) = (count ≡ before + length added) × (count ≤ most)
CountsWithin most before added (Err OverLimit) = most < before + length added
CountsWithin most before added (Err Memory) = Unit {0}

-- A NEW LIST of at most `most` items; OverLimit means that these would be more; Memory says nothing
abbrev pub MakesWithin : {X : Type 0} → (most : ℕ) → List X → Result (Vec X Global) ReviewFault → Type 0
MakesWithin most xs (Ok made) = (made.items ≡ xs) × (length xs ≤ most)
MakesWithin most xs (Err OverLimit) = most < length xs
MakesWithin most xs (Err Memory) = Unit {0}
