-- The last of some words stands apart from those before it.
use Rattle.std.proofs.Common.{◌≡◌, ℕ, List, [], ◌∷◌, ◌++◌, map, Some, refl, ap, ◌∙◌}
use Rattle.std.proofs.lemmas.List.{map-append}
use Rattle.siman_outside.specs.Words.{before_last, last_apart}

behind : (before : List (List ℕ)) (last : List ℕ) → last_apart (before ++ last ∷ []) ≡ Some (before, last)
behind [] last = refl
behind (word ∷ words) last = ap (λ p. Some (before_last word p)) (behind words last)

-- of words that have their text by `text`
pub last_behind : {S : Type 0} (text : S → List ℕ) (words before : List S) (last : S) → words ≡ before ++ last ∷ []
    → last_apart (map text words) ≡ Some (map text before, text last)
last_behind text words before last is =
    ap (λ ws. last_apart (map text ws)) is ∙ ap last_apart (map-append text before (last ∷ [])) ∙ behind (map text before) (text last)
