-- Words with their columns.
use Rattle.std.proofs.Common.{◌≡◌, ℕ, ◌+◌, ◌-◌, ◌<◌, Bool, true, false, ◌==◌, cond, List, [], ◌∷◌, ◌++◌, length, take, drop, map, refl, ap, subst, ◌∙◌, arith, length-append, append_assoc}
use Rattle.std.specs.List.{All, onto_first, join_with_byte}
use Rattle.std.proofs.lemmas.List.Elements.{All-nil, All-cons}
use Rattle.std.proofs.lemmas.List.Splits.{join_with_byte-slice_split}
use Rattle.byte_files.specs.Text.{words_of}
use Rattle.siman_scripts.specs.Words.{placed_from, placed_words_of, IsPlacedAt}

-- the words that are placed are the words
pub placed_from-words : (c : ℕ) (ws : List (List ℕ)) → map (λ p. p.1) (placed_from c ws) ≡ ws
placed_from-words c [] = refl
placed_from-words c (w ∷ ws) = ap (λ rest. w ∷ rest) (placed_from-words (c + length w + 1) ws)

-- how many bytes words take with a space behind each
abbrev pub width : List (List ℕ) → ℕ
width [] = 0
width (w ∷ ws) = length w + 1 + width ws

width_first : (b : ℕ) (ws : List (List ℕ)) → 0 < width ws → width (onto_first b ws) ≡ width ws + 1
width_first b [] h = absurd (omega arith)
width_first b (w ∷ ws) h = omega arith

width_step : (b : ℕ) (here : Bool) (ws : List (List ℕ)) (n : ℕ) → width ws ≡ n + 1 → width (cond here ([] ∷ ws) (onto_first b ws)) ≡ n + 1 + 1
width_step b true ws n h = omega arith
width_step b false ws n h = width_first b ws (omega arith) ∙ omega arith

-- the words of a line take its bytes and one more
pub width-words : (bs : List ℕ) → width (words_of bs) ≡ length bs + 1
width-words [] = refl
width-words (b ∷ bs) = width_step b (b == 32) (words_of bs) (length bs) (width-words bs) ∙ omega arith

-- what stands behind some bytes is behind them
drop_behind : (xs ys : List ℕ) → drop (length xs) (xs ++ ys) ≡ ys
drop_behind [] ys = refl
drop_behind (x ∷ xs) ys = drop_behind xs ys

take_before : (xs ys : List ℕ) → take (length xs) (xs ++ ys) ≡ xs
take_before [] ys = refl
take_before (x ∷ xs) ys = ap (λ rest. x ∷ rest) (take_before xs ys)

take_whole : (xs : List ℕ) → take (length xs) xs ≡ xs
take_whole [] = refl
take_whole (x ∷ xs) = ap (λ rest. x ∷ rest) (take_whole xs)

stands_behind : (before word behind : List ℕ) (c : ℕ) → c ≡ length before + 1 → IsPlacedAt (before ++ (word ++ behind)) (c, word)
stands_behind before word behind c e =
    let k : c - 1 ≡ length before = omega arith in
    rw (k, drop_behind before (word ++ behind)) (take_before word behind)

stands_alone : (before word : List ℕ) (c : ℕ) → c ≡ length before + 1 → IsPlacedAt (before ++ word) (c, word)
stands_alone before word c e =
    let k : c - 1 ≡ length before = omega arith in
    rw (k, drop_behind before word) (take_whole word)

-- words in a row stand at their columns behind some bytes
placed : (before : List ℕ) (ws : List (List ℕ)) (c : ℕ) → c ≡ length before + 1 → All (IsPlacedAt (before ++ join_with_byte 32 ws)) (placed_from c ws)
placed before [] c e = All-nil (IsPlacedAt (before ++ []))
placed before (w ∷ []) c e =
    All-cons (IsPlacedAt (before ++ w)) (c, w) [] (stands_alone before w c e) (All-nil (IsPlacedAt (before ++ w)))
placed before (w ∷ v ∷ vs) c e =
    let rest = 32 ∷ join_with_byte 32 (v ∷ vs) in
    let same : (before ++ (w ++ 32 ∷ [])) ++ join_with_byte 32 (v ∷ vs) ≡ before ++ (w ++ rest) = simp append_assoc in
    let P : List ℕ → Type 0 = λ line. All (IsPlacedAt line) (placed_from (c + length w + 1) (v ∷ vs)) in
    All-cons (IsPlacedAt (before ++ (w ++ rest))) (c, w) (placed_from (c + length w + 1) (v ∷ vs))
    (stands_behind before w rest c e)
    (subst P same (placed (before ++ (w ++ 32 ∷ [])) (v ∷ vs) (c + length w + 1) (simp length-append (omega arith))))

-- THE WORDS OF A LINE STAND AT THEIR COLUMNS
pub words_stand : (line : List ℕ) → All (IsPlacedAt line) (placed_words_of line)
words_stand line =
    let P : List ℕ → Type 0 = λ bs. All (IsPlacedAt bs) (placed_words_of line) in
    subst P (join_with_byte-slice_split 32 line) (placed [] (words_of line) 1 refl)
