-- Texts for 0, 1 and so on, one text more at a time.
use Rattle.std.proofs.Common.{◌≡◌, ℕ, ◌+◌, ◌<◌, List, [], ◌++◌, length, sym, ap, ◌∙◌, append_assoc, append-nil}
use Rattle.std.specs.Prelude.{slice_get, slice_index_or}
use Rattle.std.specs.Option.{option_map_or}
use Rattle.std.proofs.Math.Numerals.{add-one}
use Rattle.std.proofs.lemmas.Option.{slice_get-get_or}
use Rattle.siman_print.specs.Below.{texts_below}

-- none yet, behind what there is
pub texts_begin : (text : ℕ → List ℕ) (old : List ℕ) → old ≡ old ++ texts_below text 0
unfolding texts_below
texts_begin text old = sym (append-nil old)

texts_more : (text : ℕ → List ℕ) (n : ℕ) → texts_below text (n + 1) ≡ texts_below text n ++ text n
unfolding texts_below
texts_more text n = ap (texts_below text) (add-one n)

-- one more, behind those before it
pub texts_next : (text : ℕ → List ℕ) (n : ℕ) (old mid new : List ℕ) → mid ≡ old ++ texts_below text n → new ≡ mid ++ text n
    → new ≡ old ++ texts_below text (n + 1)
texts_next text n old mid new before here =
    here ∙ ap (λ v. v ++ text n) before ∙ append_assoc old (texts_below text n) (text n) ∙ ap (λ v. old ++ v) (sym (texts_more text n))

-- the text of the item of a list that has a number
abbrev pub text_at : {X : Type 0} → (ℕ → X → List ℕ) → List X → ℕ → List ℕ
text_at text xs n = option_map_or (text n) (slice_get xs n) []

-- the text of one item more, behind those of the items before it
pub item_next : {X : Type 0} (text : ℕ → X → List ℕ) (xs : List X) (n : ℕ) (d : X) (old mid new : List ℕ) → n < length xs
    → mid ≡ old ++ texts_below (text_at text xs) n → new ≡ mid ++ text n (slice_index_or xs n d) → new ≡ old ++ texts_below (text_at text xs) (n + 1)
item_next text xs n d old mid new within before here =
    texts_next (text_at text xs) n old mid new before
    (here ∙ ap (λ v. mid ++ v) (ap (λ o. option_map_or (text n) o []) (sym (slice_get-get_or xs n d within))))
