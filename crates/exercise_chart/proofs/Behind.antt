-- What is put behind something, one after the other.
use Rattle.std.proofs.Common.{◌≡◌, ℕ, ◌≤◌, List, ◌++◌, length, take, flat_map, ap, ◌∙◌, append_assoc}
use Rattle.std.proofs.lemmas.List.{take_all}
use Rattle.siman_print.specs.Below.{texts_below}

pub behind : (old mid new xs ys : List ℕ) → mid ≡ old ++ xs → new ≡ mid ++ ys → new ≡ old ++ (xs ++ ys)
behind old mid new xs ys first second = second ∙ ap (λ v. v ++ ys) first ∙ append_assoc old xs ys

-- between a beginning and an end
pub between : (old start mid new xs ys zs : List ℕ) → start ≡ old ++ xs → mid ≡ start ++ ys → new ≡ mid ++ zs → new ≡ old ++ (xs ++ (ys ++ zs))
between old start mid new xs ys zs first second third = behind old start new xs (ys ++ zs) first (behind start mid new ys zs second third)

-- the texts of all that a list has, between a beginning and an end
pub all_between : {X : Type 0} (text : X → List ℕ) (all : List X) (k : ℕ) (old start mid new xs zs : List ℕ) → length all ≤ k → start ≡ old ++ xs
    → mid ≡ start ++ flat_map text (take k all) → new ≡ mid ++ zs → new ≡ old ++ (xs ++ (flat_map text all ++ zs))
all_between text all k old start mid new xs zs over first second third =
    between old start mid new xs (flat_map text all) zs first (second ∙ ap (λ part. start ++ flat_map text part) (take_all k all over)) third

-- the texts for 0, 1 and so on below n, between a beginning and an end
pub below_between : (text : ℕ → List ℕ) (k n : ℕ) (old start mid new xs zs : List ℕ) → k ≡ n → start ≡ old ++ xs
    → mid ≡ start ++ texts_below text k → new ≡ mid ++ zs → new ≡ old ++ (xs ++ (texts_below text n ++ zs))
below_between text k n old start mid new xs zs over first second third =
    between old start mid new xs (texts_below text n) zs first (second ∙ ap (λ m. start ++ texts_below text m) over) third
