-- What the words of an import say, one word after the other.
use Rattle.std.proofs.Common.{◌≡◌, ℕ, ◌≤◌, ◌-◌, List, [], ◌∷◌, length, take, drop, map, Some, refl, sym, ap, ◌∙◌, arith}
use Rattle.std.specs.Prelude.{slice_index_or}
use Rattle.std.proofs.lemmas.List.{take_rest}
use Rattle.siman_outside.specs.ImportWords.{Choices, with_word, choices_behind}

-- one word, and those behind it
pub word_taken : (c next : Choices) (word : List ℕ) (words : List (List ℕ)) → with_word c word ≡ Some next
    → choices_behind next words ≡ choices_behind c (word ∷ words)
word_taken c next word words taken = rw taken refl

-- the first of some words, and the others
pub first_taken : {A : Type 0} (text : A → List ℕ) (c next : Choices) (words : List A) (first : A) → 1 ≤ length words → first ≡ slice_index_or words 0 first
    → with_word c (text first) ≡ Some next
    → choices_behind next (map text (take (length words - 1) (drop 1 words))) ≡ choices_behind c (map text words)
first_taken text c next [] first some at taken = absurd (omega (arith, some))
first_taken text c next (word ∷ words) first some at taken =
    ap (λ ws. choices_behind next (map text ws)) (take_rest (word ∷ words) 1)
    ∙ word_taken c next (text word) (map text words) (ap (λ w. with_word c (text w)) (sym at) ∙ taken)
