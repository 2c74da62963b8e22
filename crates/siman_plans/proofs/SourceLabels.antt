-- Labels of words in memory.
use Rattle.std.proofs.Common.{◌≡◌, ℕ, Bool, true, false, cond, List, [], ◌∷◌, ◌++◌, map, refl, Bor}
use Rattle.std.specs.List.{position_or_len, position, list_any}
use Rattle.std.specs.Str.{bytes_eq}
use Rattle.std.proofs.lemmas.List.{length-map, map-append}
use Rattle.siman_plans.specs.SourceLabels.{given}

-- the first of the values that passes a test
first-map : {X Y : Type 0} (f : X → Y) (p : Y → Bool) (xs : List X) → position_or_len p (map f xs) ≡ position_or_len (λ x. p (f x)) xs
first-map f p [] = refl
first-map f p (x ∷ xs) = rw (first-map f p xs)

pub position-map : {X Y : Type 0} (f : X → Y) (p : Y → Bool) (xs : List X) → position p (map f xs) ≡ position (λ x. p (f x)) xs
position-map f p xs = rw (first-map f p xs, length-map)

pub list_any-map : {X Y : Type 0} (f : X → Y) (p : Y → Bool) (xs : List X) → list_any p (map f xs) ≡ list_any (λ x. p (f x)) xs
list_any-map f p [] = refl
list_any-map f p (x ∷ xs) = rw (list_any-map f p xs)

added : (b : Bool) (ks : List (Bor (List ℕ))) (k : Bor (List ℕ)) → map (λ w. w.now) (cond b ks (ks ++ k ∷ [])) ≡ cond b (map (λ w. w.now) ks) (map (λ w. w.now) ks ++ k.now ∷ [])
added true ks k = refl
added false ks k = map-append (λ (w : Bor (List ℕ)). w.now) ks (k ∷ [])

-- labels in memory with one more are the labels with one more
pub given-map : (ks : List (Bor (List ℕ))) (k : Bor (List ℕ)) → map (λ w. w.now) (cond (list_any (λ w. bytes_eq k.now w.now) ks) ks (ks ++ k ∷ [])) ≡ given (map (λ w. w.now) ks) k.now
given-map ks k =
    rw (list_any-map (λ (w : Bor (List ℕ)). w.now) (λ l. bytes_eq k.now l) ks) (added (list_any (λ w. bytes_eq k.now w.now) ks) ks k)
