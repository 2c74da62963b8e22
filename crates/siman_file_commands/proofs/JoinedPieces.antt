-- Pieces that are opened and read one after the other.
use Rattle.std.proofs.Common.{◌≡◌, ℕ, ◌+◌, ◌<◌, List, [], ◌∷◌, ◌++◌, length, map, take, drop, get_or, take-append-drop, Result, Ok, Err, inl, inr, refl, sym, ap, subst, ◌∙◌, append_assoc, append-nil, arith}
use Rattle.std.specs.List.{flat_map, remove}
use Rattle.std.specs.Result.{IsErrAnd}
use Rattle.std.proofs.lemmas.List.{map-append, length-map, get_or-map, drop_more, take_more}
use Rattle.std.proofs.lemmas.Grind.{flat_map-append}
use Rattle.exercise_recording.specs.Joining.{JoiningData}
use Rattle.siman_outside.specs.declared.fault.Fault.{Fault}
use Rattle.siman_outside.specs.Outside.{Deed}
use Rattle.siman_file_commands.specs.Join.{Seen, opening_deeds, TakesPiece, ReadsBehind}

-- ---- opening

-- what has been opened, with one piece more
pub one_opened : (made : List ℕ) (pieces : List Seen) (piece : Seen) (deeds last : List Deed) → deeds ≡ flat_map (opening_deeds made) pieces
    → last ≡ opening_deeds made piece → deeds ++ last ≡ flat_map (opening_deeds made) (pieces ++ piece ∷ [])
one_opened made pieces piece deeds last so_far is =
    ap (λ ds. ds ++ last) so_far ∙ ap (λ ds. flat_map (opening_deeds made) pieces ++ ds) (is ∙ sym (append-nil (opening_deeds made piece)))
    ∙ sym (flat_map-append (opening_deeds made) pieces (piece ∷ []))

pub one_named : (pieces : List Seen) (piece : Seen) (names : List (List ℕ)) (i : ℕ) (name : List ℕ) → map (λ (p : Seen). p.name) pieces ≡ take i names
    → piece.name ≡ name → take (i + 1) names ≡ take i names ++ name ∷ [] → map (λ (p : Seen). p.name) (pieces ++ piece ∷ []) ≡ take (i + 1) names
one_named pieces piece names i name so_far same more =
    map-append (λ (p : Seen). p.name) pieces (piece ∷ []) ∙ ap (λ ns. ns ++ piece.name ∷ []) so_far ∙ ap (λ n. take i names ++ n ∷ []) same ∙ sym more

next_at : {X : Type 0} (text : X → List ℕ) (xs : List X) (i : ℕ) (x : X) (name : List ℕ) → i < length xs → x ≡ get_or xs i x → name ≡ text x
    → get_or (map text xs) i name ≡ name
next_at text xs i x name within at same = get_or-map text xs i x name within ∙ ap text (sym at) ∙ sym same

within_map : {X : Type 0} (text : X → List ℕ) (xs : List X) (i : ℕ) → i < length xs → i < length (map text xs)
within_map text xs i within = omega (arith, length-map xs text)

-- of names that are left the next
pub next_name : {X : Type 0} (text : X → List ℕ) (xs : List X) (i : ℕ) (x : X) (name : List ℕ) → i < length xs → x ≡ get_or xs i x → name ≡ text x
    → drop i (map text xs) ≡ name ∷ drop (i + 1) (map text xs)
next_name text xs i x name within at same =
    drop_more (map text xs) i name (within_map text xs i within) ∙ ap (λ n. n ∷ drop (i + 1) (map text xs)) (next_at text xs i x name within at same)

-- the names so far with the next
pub next_taken : {X : Type 0} (text : X → List ℕ) (xs : List X) (i : ℕ) (x : X) (name : List ℕ) → i < length xs → x ≡ get_or xs i x → name ≡ text x
    → take (i + 1) (map text xs) ≡ take i (map text xs) ++ name ∷ []
next_taken text xs i x name within at same =
    take_more (map text xs) i name (within_map text xs i within) ∙ ap (λ n. take i (map text xs) ++ n ∷ []) (next_at text xs i x name within at same)

-- WHAT STANDS BEFORE A PIECE IS OPENED, with the names that are left
pub split_names : (pieces : List Seen) (names : List (List ℕ)) (i : ℕ) → map (λ (p : Seen). p.name) pieces ≡ take i names
    → names ≡ map (λ (p : Seen). p.name) pieces ++ drop i names
split_names pieces names i so_far = sym (take-append-drop i names) ∙ ap (λ ns. ns ++ drop i names) (sym so_far)

-- ---- reading

-- of a list that is not empty the first was taken
pub first_taken : {X : Type 0} (xs new : List X) (x : X) → 0 < length xs → x ≡ get_or xs 0 x → new ≡ remove xs 0 → xs ≡ x ∷ new
first_taken [] new x some is left = absurd (omega arith)
first_taken (y ∷ xs) new x some is left = ap (λ z. z ∷ xs) (sym is) ∙ ap (λ ys. x ∷ ys) (sym left)

pub none_there : {X : Type 0} (xs : List X) → length xs ≡ 0 → xs ≡ []
none_there [] none = refl
none_there (x ∷ xs) none = absurd (omega arith)

-- the deeds so far, behind which those of the pieces that are left make up those of all
abbrev pub IsReading : (start : JoiningData) → (all left : List Seen) → (deeds : List Deed) → JoiningData → Type 0
IsReading start all left deeds j =
    (rest : List Deed) (result : Result JoiningData Fault) → ReadsBehind j left rest result → ReadsBehind start all (deeds ++ rest) result

pub none_read : (start j : JoiningData) (all : List Seen) → j ≡ start → IsReading start all all [] j
none_read start j all same rest result h = subst (λ k. ReadsBehind k all rest result) same h

-- One piece more was read and taken.
pub one_read : (start j next : JoiningData) (all left more : List Seen) (piece : Seen) (deeds first : List Deed) → left ≡ piece ∷ more → TakesPiece piece j first (Ok tt) next
    → IsReading start all left deeds j → IsReading start all more (deeds ++ first) next
one_read start j next all left more piece deeds first is takes so_far rest result h =
    let there : ReadsBehind j (piece ∷ more) (first ++ rest) result = inl (first, rest, next, takes, refl, h) in
    subst (λ ds. ReadsBehind start all ds result) (sym (append_assoc deeds first rest))
    (so_far (first ++ rest) result (subst (λ ps. ReadsBehind j ps (first ++ rest) result) (sym is) there))

-- One piece more was read and not taken.
pub one_refused : (start j next : JoiningData) (all left more : List Seen) (piece : Seen) (deeds last : List Deed) (fault : Fault) (result : Result JoiningData Fault)
    → left ≡ piece ∷ more → TakesPiece piece j last (Err fault) next → IsErrAnd result (λ e. e ≡ fault) → IsReading start all left deeds j
    → ReadsBehind start all (deeds ++ last) result
one_refused start j next all left more piece deeds last fault (Ok k) is refuses passed so_far = absurd passed
one_refused start j next all left more piece deeds last fault (Err e) is refuses passed so_far =
    let told : ReadsBehind j (piece ∷ more) last (Err e) = inr (fault, next, refuses, ap (λ f. Err f) passed) in
    so_far last (Err e) (subst (λ ps. ReadsBehind j ps last (Err e)) (sym is) told)

pub all_read : (start j : JoiningData) (all left : List Seen) (deeds : List Deed) → left ≡ [] → IsReading start all left deeds j → ReadsBehind start all deeds (Ok j)
all_read start j all left deeds none so_far =
    subst (λ ds. ReadsBehind start all ds (Ok j)) (append-nil deeds)
    (so_far [] (Ok j) (subst (λ ps. ReadsBehind j ps [] (Ok j)) (sym none) (refl, refl)))
