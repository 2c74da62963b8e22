-- How many datagrams entries have of which none means anything, one entry after the other.
use Rattle.std.proofs.Common.{◌≡◌, ℕ, ◌+◌, ◌<◌, Bool, true, false, if◌then◌else◌, List, [], ◌∷◌, ◌++◌, length, take, drop, slice_get, Option, Some, None, refl, ap, sym, ◌∙◌, arith}
use Rattle.std.proofs.lemmas.List.{take_more, take-append-drop}
use Rattle.std.proofs.lemmas.Option.{get_or_from_slice_get, same_Some}
use Rattle.std.specs.Prelude.{is_some}
use Rattle.exercise_model.specs.Entry.{Entry, Sent, Received, Told}
use Rattle.exercise_model.specs.Meaning.{meaning}
use Rattle.siman_outside.specs.Notes.{entry_count, both, meaningless_count}

none-left : (n : Option ℕ) → both (Some 0) n ≡ n
none-left None = refl
none-left (Some n) = ap Some (omega arith)

assoc : (a b c : Option ℕ) → both (both a b) c ≡ both a (both b c)
assoc None b c = refl
assoc (Some m) None c = refl
assoc (Some m) (Some n) None = refl
assoc (Some m) (Some n) (Some k) = ap Some (omega arith)

-- entries behind others
in-append : (x : ℕ) (es fs : List Entry) → meaningless_count x (es ++ fs) ≡ both (meaningless_count x es) (meaningless_count x fs)
in-append x [] fs = sym (none-left (meaningless_count x fs))
in-append x (e ∷ es) fs = ap (both (entry_count x e)) (in-append x es fs) ∙ sym (assoc (entry_count x e) (meaningless_count x es) (meaningless_count x fs))

longer : (es : List Entry) (i : ℕ) (e : Entry) → i < length es → slice_get es i ≡ Some e → take (i + 1) es ≡ take i es ++ e ∷ []
longer es i e below there = take_more es i e below ∙ ap (λ (y : Entry). take i es ++ y ∷ []) (get_or_from_slice_get es i e e there)

joined : (x : ℕ) (es : List Entry) (i : ℕ) (e : Entry) → i < length es → slice_get es i ≡ Some e
    → meaningless_count x (take (i + 1) es) ≡ both (meaningless_count x (take i es)) (both (entry_count x e) (Some 0))
joined x es i e below there = ap (meaningless_count x) (longer es i e below there) ∙ in-append x (take i es) (e ∷ [])

added : (m n : ℕ) → both (Some m) (both (Some n) (Some 0)) ≡ Some (m + n)
added m n = ap Some (omega arith)

-- one more entry is counted
pub one_more : (x : ℕ) (es : List Entry) (i : ℕ) (e : Entry) (m n : ℕ) → i < length es → slice_get es i ≡ Some e
    → meaningless_count x (take i es) ≡ Some m → entry_count x e ≡ Some n → meaningless_count x (take (i + 1) es) ≡ Some (m + n)
one_more x es i e m n below there before count =
    joined x es i e below there ∙ ap (λ (a : Option ℕ). both a (both (entry_count x e) (Some 0))) before ∙ ap (λ (b : Option ℕ). both (Some m) (both b (Some 0))) count ∙ added m n

-- an entry has a datagram that means something
pub one_means : (x : ℕ) (es : List Entry) (i : ℕ) (e : Entry) (m : ℕ) → i < length es → slice_get es i ≡ Some e
    → meaningless_count x (take i es) ≡ Some m → entry_count x e ≡ None → meaningless_count x es ≡ None
one_means x es i e m below there before count =
    let front : meaningless_count x (take (i + 1) es) ≡ None = joined x es i e below there ∙ ap (λ (a : Option ℕ). both a (both (entry_count x e) (Some 0))) before ∙ ap
    (λ (b : Option ℕ). both (Some m) (both b (Some 0))) count in
    ap (meaningless_count x) (sym (take-append-drop (i + 1) es)) ∙ in-append x (take (i + 1) es) (drop (i + 1) es) ∙ ap (λ (a : Option ℕ). both a (meaningless_count x (drop (i + 1) es))) front

one_at_most : (means : Bool) (n : ℕ) → (if means then None else Some 1) ≡ Some n → n < 2
one_at_most true n is = absurd cc
one_at_most false n is = let same : 1 ≡ n = same_Some 1 n is in omega (arith, same)

-- an entry has one datagram at most
pub at_most_one : (x : ℕ) (e : Entry) (n : ℕ) → entry_count x e ≡ Some n → n < 2
at_most_one x (Sent s stamp b) n is = one_at_most (is_some (meaning x b)) n is
at_most_one x (Received s stamp b) n is = one_at_most (is_some (meaning x b)) n is
at_most_one x (Told s e y) n is = let same : 0 ≡ n = same_Some 0 n is in omega (arith, same)
