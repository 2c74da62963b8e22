-- What a reason says of its line is so.
use Rattle.std.proofs.Common.{◌≡◌, inl, inr, ℕ, ◌+◌, ◌-◌, ◌<◌, ◌≤◌, Bool, true, false, cond, ◌==◌, nat_le, List, [], ◌∷◌, length, drop, map, Option, Some, None, refl, ap, subst, ◌∙◌, arith, suc, zero, get_or, add-one}
use Rattle.std.specs.List.{slice_get, position}
use Rattle.std.specs.Option.{option_map, option_or, unwrap_or, IfSome}
use Rattle.std.proofs.lemmas.Bool.Decides.{nat_tests}
use Rattle.std.proofs.lemmas.List.Quantifiers.{position-Some}
use Rattle.std.proofs.lemmas.Option.{same_Some, slice_get-get_or}
use Rattle.siman_scripts.specs.declared.form.LineForm.{LineForm}
use Rattle.siman_scripts.specs.declared.form.Next.{Next}
use Rattle.siman_scripts.specs.declared.form.Next.TheVariants.{Needed, Optional, End}
use Rattle.siman_scripts.specs.declared.why.LineWhy.{LineWhy}
use Rattle.siman_scripts.specs.declared.why.LineWhy.TheVariants as whys
use Rattle.siman_scripts.specs.declared.word_kind.WordKind.{WordKind}
use Rattle.byte_files.specs.Text.{words_of}
use Rattle.siman_scripts.specs.Statement.{is_passed_over}
use Rattle.siman_scripts.specs.Words.{placed_words_of}
use Rattle.siman_scripts.specs.Forms.{fits, form_named, next_word}
use Rattle.siman_scripts.specs.Nearest.{nearest}
use Rattle.siman_scripts.specs.LineReason.{Told, is_mark, foreign_why, foreign_reason, blank_why, byte_why, is_end, spacing_from, spacing_reason, is_comment, word_reason, end_reason, words_reason, named_reason, form_reason, spacing_first, ascii_reason, line_reason}
use Rattle.siman_scripts.specs.Holds.{ByteAt, Begins, IsPlacedBehind, IsSo, Holds}
use Rattle.siman_scripts.proofs.Placed.{placed_from-words, width, width-words}

abbrev Placed : Type 0
Placed = ℕ × List ℕ

-- what a list has behind some elements

get_behind : {X : Type 0} (k : ℕ) (xs ys : List X) (y : X) → drop k xs ≡ y ∷ ys → slice_get xs k ≡ Some y
get_behind zero [] ys y e = cc
get_behind zero (x ∷ xs) ys y e = let same : x ≡ y = cc in rw same
get_behind (suc k) [] ys y e = cc
get_behind (suc k) (x ∷ xs) ys y e = get_behind k xs ys y e

drop_behind : {X : Type 0} (k : ℕ) (xs ys : List X) (y : X) → drop k xs ≡ y ∷ ys → drop (suc k) xs ≡ ys
drop_behind zero [] ys y e = cc
drop_behind zero (x ∷ xs) ys y e = cc
drop_behind (suc k) [] ys y e = cc
drop_behind (suc k) (x ∷ xs) ys y e = drop_behind k xs ys y e

length_behind : {X : Type 0} (k : ℕ) (xs ys : List X) (y : X) → drop k xs ≡ y ∷ ys → length xs ≡ k + length ys + 1
length_behind zero [] ys y e = cc
length_behind zero (x ∷ xs) ys y e = let same : xs ≡ ys = cc in rw same (omega arith)
length_behind (suc k) [] ys y e = cc
length_behind (suc k) (x ∷ xs) ys y e = let n = length_behind k xs ys y e in omega arith

-- the reason that was told is the one that holds
told_so : (line : List ℕ) (words : List Placed) (r s : ℕ × LineWhy) → Some r ≡ Some s → IsSo line words r.0 r.1 → IsSo line words s.0 s.1
told_so line words r s e h = let P : ℕ × LineWhy → Type 0 = λ x. IsSo line words x.0 x.1 in subst P (same_Some r s e) h

-- Words.

needed_holds : (line : List ℕ) (words : List Placed) (f : LineForm) (i : ℕ) (p : Placed) (k : WordKind) (r : ℕ × LineWhy) (here : Bool)
    → fits k p.1 ≡ here → next_word f i ≡ Needed k → IsPlacedBehind words f i p → cond here None (Some (p.0, whys.Wrong f k)) ≡ Some r → IsSo line words r.0 r.1
needed_holds line words f i p k r true h n s e = cc
needed_holds line words f i p k r false h n s e = told_so line words (p.0, whys.Wrong f k) r e (i, p.1, s, h, inl n)

optional_holds : (line : List ℕ) (words : List Placed) (f : LineForm) (i : ℕ) (p : Placed) (k : WordKind) (r : ℕ × LineWhy) (here comment : Bool)
    → fits k p.1 ≡ here → is_comment p.1 ≡ comment → next_word f i ≡ Optional k → IsPlacedBehind words f i p
    → cond here None (Some (p.0, cond comment (whys.Comment f) (whys.Wrong f k))) ≡ Some r → IsSo line words r.0 r.1
optional_holds line words f i p k r true comment h m n s e = cc
optional_holds line words f i p k r false true h m n s e = told_so line words (p.0, whys.Comment f) r e (i, p.1, s, m)
optional_holds line words f i p k r false false h m n s e = told_so line words (p.0, whys.Wrong f k) r e (i, p.1, s, h, inr n)

extra_holds : (line : List ℕ) (words : List Placed) (f : LineForm) (i : ℕ) (p : Placed) (r : ℕ × LineWhy) (comment : Bool)
    → is_comment p.1 ≡ comment → next_word f i ≡ End → IsPlacedBehind words f i p → Some (p.0, cond comment (whys.Comment f) (whys.TooMany f)) ≡ Some r → IsSo line words r.0 r.1
extra_holds line words f i p r true m n s e = told_so line words (p.0, whys.Comment f) r e (i, p.1, s, m)
extra_holds line words f i p r false m n s e = told_so line words (p.0, whys.TooMany f) r e (i, p.1, s, n)

word_holds : (line : List ℕ) (words : List Placed) (f : LineForm) (i : ℕ) (p : Placed) (r : ℕ × LineWhy) (n : Next)
    → next_word f i ≡ n → IsPlacedBehind words f i p → word_reason f n p ≡ Some r → IsSo line words r.0 r.1
word_holds line words f i p r (Needed k) n s e = needed_holds line words f i p k r (fits k p.1) refl n s e
word_holds line words f i p r (Optional k) n s e = optional_holds line words f i p k r (fits k p.1) (is_comment p.1) refl refl n s e
word_holds line words f i p r End n s e = extra_holds line words f i p r (is_comment p.1) refl n s e

end_holds : (line : List ℕ) (words : List Placed) (f : LineForm) (c : ℕ) (r : ℕ × LineWhy) (n : Next)
    → Begins words f → c ≡ length line + 1 → next_word f (length words - 1) ≡ n → end_reason f n c ≡ Some r → IsSo line words r.0 r.1
end_holds line words f c r (Needed k) b h n e = told_so line words (c, whys.Missing f k) r e (b, h, n)
end_holds line words f c r (Optional k) b h n e = cc
end_holds line words f c r End b h n e = cc

-- the first of two reasons that is one
either : (o q : Told) (r : ℕ × LineWhy) (P : ℕ × LineWhy → Type 0) → (o ≡ Some r → P r) → (q ≡ Some r → P r) → option_or o q ≡ Some r → P r
either None q r P f g e = g e
either (Some x) q r P f g e = f e

words_hold : (line : List ℕ) (words : List Placed) (f : LineForm) (place c : ℕ) (ps : List Placed) (r : ℕ × LineWhy)
    → Begins words f → c ≡ length line + 1 → drop (suc place) words ≡ ps → length words ≡ place + 1 + length ps → words_reason f place c ps ≡ Some r → IsSo line words r.0 r.1
words_hold line words f place c [] r b h d n e =
    let last : length words - 1 ≡ place = omega arith in
    end_holds line words f c r (next_word f place) b h (ap (next_word f) last) e
words_hold line words f place c (p ∷ ps) r b h d n e =
    let at : slice_get words (place + 1) ≡ Some p = rw add-one (get_behind (suc place) words ps p d) in
    let P : ℕ × LineWhy → Type 0 = λ x. IsSo line words x.0 x.1 in
    either (word_reason f (next_word f place) p) (words_reason f (place + 1) c ps) r P
    (λ w. word_holds line words f place p r (next_word f place) refl (b, at) w)
    (λ w. words_hold line words f (place + 1) c ps r b h (rw add-one (drop_behind (suc place) words ps p d)) (omega arith) w)
    e

named_holds : (line : List ℕ) (c : ℕ) (p : Placed) (ps : List Placed) (r : ℕ × LineWhy) (o : Option LineForm)
    → form_named p.1 ≡ o → c ≡ length line + 1 → named_reason c p ps o ≡ Some r → IsSo line (p ∷ ps) r.0 r.1
named_holds line c p ps r None o h e = told_so line (p ∷ ps) (p.0, whys.UnknownName (nearest p.1)) r e (p.1, refl, o, refl)
named_holds line c p ps r (Some f) o h e = words_hold line (p ∷ ps) f 0 c ps r (ap (λ x. Some x) o) h refl (omega arith) e

form_holds : (line : List ℕ) (words : List Placed) (r : ℕ × LineWhy) → 0 < length words → form_reason (length line + 1) words ≡ Some r → IsSo line words r.0 r.1
form_holds line [] r n e = absurd (omega arith)
form_holds line (p ∷ ps) r n e = named_holds line (length line + 1) p ps r (form_named p.1) refl refl e

-- Spaces.

blank_holds : (line : List ℕ) (words : List Placed) (column before : ℕ) (first twice last : Bool) (why : LineWhy) → ByteAt line column 32
    → (column == 1) ≡ first → (before == 32) ≡ twice → (last ≡ true → column ≡ length line) → (1 < column → ByteAt line (column - 1) before) → 0 < column
    → cond first (Some whys.BlankAtBegin) (cond twice (Some whys.TwoBlanks) (cond last (Some whys.BlankAtEnd) None)) ≡ Some why → IsSo line words column why
blank_holds line words column before true twice last why at a b l p q e =
    subst (IsSo line words column) (same_Some whys.BlankAtBegin why e) (at, grind (arith, nat_tests))
blank_holds line words column before false true last why at a b l p q e =
    let same : before ≡ 32 = grind (arith, nat_tests) in
    let more : 1 < column = grind (arith, nat_tests) in
    subst (IsSo line words column) (same_Some whys.TwoBlanks why e) (at, (p more) ∙ ap (λ x. Some x) same)
blank_holds line words column before false false true why at a b l p q e = subst (IsSo line words column) (same_Some whys.BlankAtEnd why e) (at, l refl)
blank_holds line words column before false false false why at a b l p q e = cc

byte_holds : (line : List ℕ) (words : List Placed) (column before b : ℕ) (tab return blank last : Bool) (why : LineWhy) → ByteAt line column b
    → (b == 9) ≡ tab → (b == 13) ≡ return → (b == 32) ≡ blank → (last ≡ true → column ≡ length line) → (1 < column → ByteAt line (column - 1) before) → 0 < column
    → cond tab (Some whys.Tab) (cond return (Some (cond last whys.CarriageReturnAtEnd whys.CarriageReturn)) (cond blank (blank_why column before last) None)) ≡ Some why → IsSo line words column why
byte_holds line words column before b true return blank last why at t s u l p q e =
    let same : b ≡ 9 = grind (arith, nat_tests) in
    subst (IsSo line words column) (same_Some whys.Tab why e) (at ∙ ap (λ x. Some x) same)
byte_holds line words column before b false true blank true why at t s u l p q e =
    let same : b ≡ 13 = grind (arith, nat_tests) in
    subst (IsSo line words column) (same_Some whys.CarriageReturnAtEnd why e) (at ∙ ap (λ x. Some x) same, l refl)
byte_holds line words column before b false true blank false why at t s u l p q e =
    let same : b ≡ 13 = grind (arith, nat_tests) in
    subst (IsSo line words column) (same_Some whys.CarriageReturn why e) (at ∙ ap (λ x. Some x) same)
byte_holds line words column before b false false true last why at t s u l p q e =
    let same : b ≡ 32 = grind (arith, nat_tests) in
    blank_holds line words column before (column == 1) (before == 32) last why (at ∙ ap (λ x. Some x) same) refl refl l p q e
byte_holds line words column before b false false false last why at t s u l p q e = cc

placed_holds : (line : List ℕ) (words : List Placed) (column : ℕ) (o : Option LineWhy) (r : ℕ × LineWhy) → ((why : LineWhy) → o ≡ Some why → IsSo line words column why)
    → option_map (λ why. (column, why)) o ≡ Some r → IsSo line words r.0 r.1
placed_holds line words column None r f e = cc
placed_holds line words column (Some why) r f e = told_so line words (column, why) r e (f why refl)

ends : (bs : List ℕ) → is_end bs ≡ true → length bs ≡ 0
ends [] h = refl
ends (b ∷ bs) h = cc

spacing_holds : (line : List ℕ) (words : List Placed) (k before : ℕ) (bs : List ℕ) (r : ℕ × LineWhy) → drop k line ≡ bs → (1 < k + 1 → ByteAt line k before)
    → spacing_from before (k + 1) bs ≡ Some r → IsSo line words r.0 r.1
spacing_holds line words k before [] r d p e = cc
spacing_holds line words k before (b ∷ bs) r d p e =
    let at : slice_get line k ≡ Some b = get_behind k line bs b d in
    let same : k + 1 - 1 ≡ k = omega arith in
    let here : ByteAt line (k + 1) b = rw same at in
    let whole = length_behind k line bs b d in
    let P : ℕ × LineWhy → Type 0 = λ x. IsSo line words x.0 x.1 in
    either (option_map (λ why. (k + 1, why)) (byte_why (k + 1) before b (is_end bs))) (spacing_from b (k + 1 + 1) bs) r P
    (λ w. placed_holds line words (k + 1) (byte_why (k + 1) before b (is_end bs)) r
    (λ why h. byte_holds line words (k + 1) before b (b == 9) (b == 13) (b == 32) (is_end bs) why here refl refl refl
    (λ last. let none = ends bs last in omega arith) (λ more. rw same (p more)) (omega arith) h) w)
    (λ w. spacing_holds line words (k + 1) b bs r (rw add-one (drop_behind k line bs b d)) (λ more. here) w)
    e

-- Bytes that are not ASCII.

mark_holds : (line : List ℕ) (words : List Placed) (i : ℕ) (mark : Bool) (r : ℕ × LineWhy) → is_mark (drop i line) ≡ mark → (b : ℕ) → slice_get line i ≡ Some b → 128 ≤ b
    → Some (i + 1, cond mark whys.ByteOrderMark whys.NotAscii) ≡ Some r → IsSo line words r.0 r.1
mark_holds line words i true r m b at large e =
    let same : i + 1 - 1 ≡ i = omega arith in
    told_so line words (i + 1, whys.ByteOrderMark) r e (rw same m)
mark_holds line words i false r m b at large e =
    let same : i + 1 - 1 ≡ i = omega arith in
    told_so line words (i + 1, whys.NotAscii) r e (b, rw same at, large)

foreign_holds : (line : List ℕ) (words : List Placed) (o : Option ℕ) (r : ℕ × LineWhy) → position (λ b. nat_le 128 b) line ≡ o
    → option_map (λ i. (i + 1, foreign_why (drop i line))) o ≡ Some r → IsSo line words r.0 r.1
foreign_holds line words None r o e = cc
foreign_holds line words (Some i) r o e =
    let p = position-Some (λ b. nat_le 128 b) line i 0 o in
    let large : 128 ≤ get_or line i 0 = grind (arith, nat_tests, p.1) in
    mark_holds line words i (is_mark (drop i line)) r refl (get_or line i 0) (slice_get-get_or line i 0 p.0) large e

-- All.

some_words : (ws : List (List ℕ)) (ps : List Placed) → map (λ p. p.1) ps ≡ ws → 0 < width ws → 0 < length ps
some_words ws [] e h = rw (← e) at h
some_words ws (p ∷ ps) e h = omega arith

there_are_words : (line : List ℕ) → 0 < length (placed_words_of line)
there_are_words line = some_words (words_of line) (placed_words_of line) (placed_from-words 1 (words_of line)) (omega (arith, width-words line))

unwrapped : (line : List ℕ) (words : List Placed) (o : Told) (x r : ℕ × LineWhy) → ((s : ℕ × LineWhy) → o ≡ Some s → IsSo line words s.0 s.1) → IsSo line words x.0 x.1
    → Some (unwrap_or o x) ≡ Some r → IsSo line words r.0 r.1
unwrapped line words None x r f h e = told_so line words x r e h
unwrapped line words (Some s) x r f h e = told_so line words s r e (f s refl)

spaces_first : (line : List ℕ) (words : List Placed) (told : Told) (r : ℕ × LineWhy) → ((s : ℕ × LineWhy) → told ≡ Some s → IsSo line words s.0 s.1)
    → spacing_first line told ≡ Some r → IsSo line words r.0 r.1
spaces_first line words None r f e = cc
spaces_first line words (Some x) r f e =
    unwrapped line words (spacing_reason line) x r (λ s h. spacing_holds line words 0 0 line s refl (λ more. absurd (omega arith)) h) (f x refl) e

ascii_holds : (line : List ℕ) (passed : Bool) (r : ℕ × LineWhy) → cond passed None (spacing_first line (form_reason (length line + 1) (placed_words_of line))) ≡ Some r → Holds line r
ascii_holds line true r e = cc
ascii_holds line false r e =
    spaces_first line (placed_words_of line) (form_reason (length line + 1) (placed_words_of line)) r (λ s h. form_holds line (placed_words_of line) s (there_are_words line) h) e

holds_if : (line : List ℕ) (o : Told) → line_reason line ≡ o → IfSome o (Holds line)
holds_if line None e = tt
holds_if line (Some r) e =
    either (foreign_reason line) (ascii_reason line) r (Holds line)
    (λ w. foreign_holds line (placed_words_of line) (position (λ b. nat_le 128 b) line) r refl w)
    (λ w. ascii_holds line (is_passed_over line) r w)
    e

-- WHAT A REASON SAYS OF ITS LINE IS SO
pub line_reason-holds : (line : List ℕ) → IfSome (line_reason line) (Holds line)
line_reason-holds line = holds_if line (line_reason line) refl
