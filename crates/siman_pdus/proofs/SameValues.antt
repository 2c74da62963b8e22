-- Two values of as many bits are the same, unused bits aside, where their cleared last bytes and all bytes before them are.
use Rattle.std.proofs.Common.{◌≡◌, ℕ, Bool, true, false, Option, None, zero, suc, ◌-◌, List, [], ◌∷◌, ◌++◌, length, get_or, take, refl, sym, ap, ◌∙◌, arith}
use Rattle.std.specs.Prelude.{◌==◌, ◌&&◌, slice_get, Some}
use Rattle.std.specs.Bool.{Decides}
use Rattle.std.specs.Option.{option_eq}
use Rattle.std.specs.Cmp.Lexicographic.{pointwise, bytes_decides}
use Rattle.std.proofs.lemmas.Bool.Decides.{Decides-eqb, Decides-like, same_from_decides}
use Rattle.std.proofs.lemmas.List.{take-set}
use Rattle.std.proofs.lemmas.Option.{slice_get-get_or, same_Some}
use Rattle.dis_records.specs.Layout.{bytes_for, cleared}
use Rattle.dis_records.proofs.Offered.{cleared_is, length-cleared}

last_split : (n : ℕ) (xs : List ℕ) → length xs ≡ suc n → xs ≡ take n xs ++ get_or xs n 0 ∷ []
last_split n [] len = absurd (omega arith)
last_split zero (x ∷ []) len = refl
last_split zero (x ∷ y ∷ xs) len = absurd (omega arith)
last_split (suc n) (x ∷ xs) len = ap (λ (l : List ℕ). x ∷ l) (last_split n xs (omega arith))

same_ends : (n : ℕ) (xs ys : List ℕ) → length xs ≡ n → length ys ≡ n → slice_get xs (n - 1) ≡ slice_get ys (n - 1)
    → take (n - 1) xs ≡ take (n - 1) ys → xs ≡ ys
same_ends n [] [] lx ly last front = refl
same_ends n [] (y ∷ ys) lx ly last front = absurd (omega arith)
same_ends n (x ∷ xs) [] lx ly last front = absurd (omega arith)
same_ends n (x ∷ xs) (y ∷ ys) lx ly last front =
    let left : List ℕ = x ∷ xs in
    let right : List ℕ = y ∷ ys in
    let m : ℕ = n - 1 in
    let same : get_or left m 0 ≡ get_or right m 0 =
    same_Some _ _ (sym (slice_get-get_or left m 0 (omega arith)) ∙ last ∙ slice_get-get_or right m 0 (omega arith)) in
    let whole : left ≡ take m left ++ get_or left m 0 ∷ [] = last_split m left (omega arith) in
    let other : right ≡ take m right ++ get_or right m 0 ∷ [] = last_split m right (omega arith) in
    whole ∙ ap (λ (l : List ℕ). l ++ get_or left m 0 ∷ []) front ∙ ap (λ (k : ℕ). take m right ++ k ∷ []) same ∙ sym other

front_stands : (bits : ℕ) (bytes : List ℕ) → length bytes ≡ bytes_for bits → take (length bytes - 1) (cleared bits bytes) ≡ take (length bytes - 1) bytes
front_stands bits bytes len = rw (cleared_is bits bytes len) (take-set bytes (length bytes - 1) _)

same_at : (n bits : ℕ) (a b : List ℕ) → length a ≡ n → length b ≡ n → n ≡ bytes_for bits
    → slice_get (cleared bits a) (n - 1) ≡ slice_get (cleared bits b) (n - 1)
    → pointwise ◌==◌ (take (n - 1) a) (take (n - 1) b) ≡ pointwise ◌==◌ (cleared bits a) (cleared bits b)
same_at n bits a b la lb is last =
    let here : take (n - 1) (cleared bits a) ≡ take (n - 1) a = rw la at (front_stands bits a (la ∙ is)) in
    let there : take (n - 1) (cleared bits b) ≡ take (n - 1) b = rw lb at (front_stands bits b (lb ∙ is)) in
    same_from_decides _ _ (bytes_decides (take (n - 1) a) (take (n - 1) b))
    (Decides-like (pointwise ◌==◌ (cleared bits a) (cleared bits b))
    (λ same. sym here ∙ ap (λ (l : List ℕ). take (n - 1) l) same ∙ there)
    (λ front. same_ends n (cleared bits a) (cleared bits b) (length-cleared bits a ∙ la) (length-cleared bits b ∙ lb) last (here ∙ front ∙ sym there))
    (bytes_decides (cleared bits a) (cleared bits b)))

same_fronts : (bits other : ℕ) (a b : List ℕ) → bits ≡ other → length a ≡ bytes_for bits → length b ≡ bytes_for other
    → slice_get (cleared bits a) (length a - 1) ≡ slice_get (cleared other b) (length b - 1)
    → pointwise ◌==◌ (take (length a - 1) a) (take (length b - 1) b) ≡ pointwise ◌==◌ (cleared bits a) (cleared other b)
same_fronts bits other a b same la lb last =
    let len : length b ≡ length a = lb ∙ ap bytes_for (sym same) ∙ sym la in
    rw (len, ← same) (same_at (length a) bits a b refl len la (rw (len, ← same) at last))

option_decides : (x y : Option ℕ) → Decides (option_eq ◌==◌ x y) (x ≡ y)
option_decides None None = (λ e. refl, λ e. refl)
option_decides None (Some n) = (λ e. absurd cc, λ e. absurd cc)
option_decides (Some m) None = (λ e. absurd cc, λ e. absurd cc)
option_decides (Some m) (Some n) =
    Decides-like (m == n) (λ e. ap (λ (k : ℕ). Some k) e) (λ e. same_Some m n e) (Decides-eqb m n)

-- a test of a part, and then of the rest where the part is the same
part_and_rest : {P : Type 0} → (part rest whole : Bool) → Decides part P → (P → rest ≡ whole) → (whole ≡ true → P) → (part && rest) ≡ whole
part_and_rest true rest whole d same back = same (d.0 refl)
part_and_rest false rest true d same back = d.1 (back refl)
part_and_rest false rest false d same back = refl

pub values_are : (bits other : ℕ) (a b : List ℕ) (x y : Option ℕ) → bits ≡ other → length a ≡ bytes_for bits → length b ≡ bytes_for other
    → x ≡ slice_get (cleared bits a) (length a - 1) → y ≡ slice_get (cleared other b) (length b - 1)
    → (option_eq ◌==◌ x y && pointwise ◌==◌ (take (length a - 1) a) (take (length b - 1) b)) ≡ pointwise ◌==◌ (cleared bits a) (cleared other b)
values_are bits other a b x y same la lb left right =
    let len : length a ≡ length b = la ∙ ap bytes_for same ∙ sym lb in
    part_and_rest (option_eq ◌==◌ x y) _ (pointwise ◌==◌ (cleared bits a) (cleared other b)) (option_decides x y)
    (λ e. same_fronts bits other a b same la lb (sym left ∙ e ∙ right))
    (λ e. left ∙ ap (λ (l : List ℕ). slice_get l (length a - 1)) ((bytes_decides (cleared bits a) (cleared other b)).0 e)
    ∙ ap (λ (k : ℕ). slice_get (cleared other b) (k - 1)) len ∙ sym right)
