-- Lines and numbers.
use Rattle.std.proofs.Common.{◌≡◌, ℕ, ◌+◌, ◌-◌, ◌*◌, ◌<◌, Bool, true, false, ◌==◌, nat_le, cond, List, [], ◌∷◌, length, drop, Option, Some, None, refl, sym, ap, ◌∙◌, arith, suc, ◌&&◌, get_or, drop-cons}
use Rattle.std.proofs.lemmas.Bool.Decides.{nat_tests}
use Rattle.std.proofs.lemmas.Grind.{common_steps}
use Rattle.std.specs.List.{onto_first}
use Rattle.std.specs.Option.{option_map}
use Rattle.byte_files.specs.Text.{lines_of, cut_at, digits_after, at_most, is_digit, number_to}

-- what a cut gives
abbrev Parts : Type 0
Parts = List ℕ × List ℕ

abbrev longer : ℕ → Parts → Parts
longer b p = (b ∷ p.0, p.1)

abbrev behind : List ℕ → Option Parts
behind bs = Some ([], bs)

-- a byte that is no separator stands before the first one
cut_cons : (c b : ℕ) (bs : List ℕ) (here : Bool) → (b == c) ≡ here → cut_at c (b ∷ bs) ≡ cond here (behind bs) (option_map (longer b) (cut_at c bs))
cut_cons c b bs true h = grind (arith, common_steps, nat_tests)
cut_cons c b bs false h = grind (arith, common_steps, nat_tests)

-- the first byte goes onto the first line, where it is no line feed
cut_on : (b : ℕ) (bs line rest : List ℕ) (found : Option (List ℕ × List ℕ)) → ((l r : List ℕ) → found ≡ Some (l, r) → lines_of bs ≡ l ∷ lines_of r)
    → option_map (longer b) found ≡ Some (line, rest) → onto_first b (lines_of bs) ≡ line ∷ lines_of rest
cut_on b bs line rest None ih h = cc
cut_on b bs line rest (Some p) ih h =
    let e = ih p.0 p.1 refl in
    let q : longer b p ≡ (line, rest) = cc in
    rw e (cc (ap (λ (x : Parts). x.0) q, ap (λ (x : Parts). lines_of x.1) q))

cut_step : (b : ℕ) (bs line rest : List ℕ) (here : Bool) → (b == 10) ≡ here
    → ((l r : List ℕ) → cut_at 10 bs ≡ Some (l, r) → lines_of bs ≡ l ∷ lines_of r)
    → cond here (behind bs) (option_map (longer b) (cut_at 10 bs)) ≡ Some (line, rest)
    → cond here ([] ∷ lines_of bs) (onto_first b (lines_of bs)) ≡ line ∷ lines_of rest
cut_step b bs line rest true e ih h =
    let both : Parts = ([], bs) in
    let q : both ≡ (line, rest) = cc in
    cc (ap (λ (x : Parts). x.0) q, ap (λ (x : Parts). lines_of x.1) q)
cut_step b bs line rest false e ih h = cut_on b bs line rest (cut_at 10 bs) ih h

-- a text with a line feed begins with the line before it
pub lines_of-cut : (bs line rest : List ℕ) → cut_at 10 bs ≡ Some (line, rest) → lines_of bs ≡ line ∷ lines_of rest
lines_of-cut [] line rest h = cc
lines_of-cut (b ∷ bs) line rest h = cut_step b bs line rest (b == 10) refl (lines_of-cut bs) (sym (cut_cons 10 b bs (b == 10) refl) ∙ h)

whole_on : (b : ℕ) (bs : List ℕ) (here : Bool) (found : Option (List ℕ × List ℕ)) → (found ≡ None → onto_first b (lines_of bs) ≡ (b ∷ bs) ∷ [])
    → cond here (behind bs) (option_map (longer b) found) ≡ None → cond here ([] ∷ lines_of bs) (onto_first b (lines_of bs)) ≡ (b ∷ bs) ∷ []
whole_on b bs true found ih h = cc
whole_on b bs false None ih h = ih refl
whole_on b bs false (Some p) ih h = cc

-- a text with no line feed is one line
pub lines_of-whole : (bs : List ℕ) → 0 < length bs → cut_at 10 bs ≡ None → lines_of bs ≡ bs ∷ []
lines_of-whole [] n h = absurd (omega arith)
lines_of-whole (b ∷ []) n h = whole_on b [] (b == 10) (cut_at 10 []) (λ _. refl) (sym (cut_cons 10 b [] (b == 10) refl) ∙ h)
lines_of-whole (b ∷ c ∷ bs) n h =
    whole_on b (c ∷ bs) (b == 10) (cut_at 10 (c ∷ bs)) (λ k. rw (lines_of-whole (c ∷ bs) (omega arith) k) refl) (sym (cut_cons 10 b (c ∷ bs) (b == 10) refl) ∙ h)

digit_large : (largest n b : ℕ) (bs : List ℕ) (digit : Bool) → at_most largest (digits_after (10 * n + (b - 48)) bs) ≡ None
    → at_most largest (cond digit (digits_after (10 * n + (b - 48)) bs) None) ≡ None
digit_large largest n b bs true h = h
digit_large largest n b bs false h = refl

-- digits only make a number larger
pub digits_after-large : (largest n : ℕ) (bs : List ℕ) → largest < n → at_most largest (digits_after n bs) ≡ None
digits_after-large largest n [] h = grind (arith, nat_tests)
digits_after-large largest n (b ∷ bs) h = digit_large largest n b bs (is_digit b) (digits_after-large largest (10 * n + (b - 48)) bs (omega arith))

digit_stops : (largest n d : ℕ) (bs : List ℕ) (digit fits : Bool) → nat_le (10 * n + (d - 48)) largest ≡ fits
    → None ≡ cond (digit && fits) (Some (10 * n + (d - 48))) None → at_most largest (cond digit (digits_after (10 * n + (d - 48)) bs) None) ≡ None
digit_stops largest n d bs false fits e h = refl
digit_stops largest n d bs true true e h = cc
digit_stops largest n d bs true false e h = digits_after-large largest (10 * n + (d - 48)) bs (grind (arith, nat_tests))

-- where the next digit is none, or makes the number too large, the word spells no number of the range
pub stops : (largest n i : ℕ) (word : List ℕ) → i < length word
    → at_most largest (digits_after n (drop i word)) ≡ at_most largest (digits_after 0 word)
    → None ≡ cond (is_digit (get_or word i 0) && nat_le (10 * n + (get_or word i 0 - 48)) largest) (Some (10 * n + (get_or word i 0 - 48))) None
    → at_most largest (digits_after 0 word) ≡ None
stops largest n i word below rest h =
    sym rest ∙ rw (drop-cons word i 0) (digit_stops largest n (get_or word i 0) (drop (suc i) word) (is_digit (get_or word i 0)) (nat_le (10 * n + (get_or word i 0 - 48)) largest) refl h)

-- a word that is not empty spells a number where its digits do
pub number_to-digits : (largest : ℕ) (word : List ℕ) → 0 < length word → at_most largest (digits_after 0 word) ≡ number_to largest word
number_to-digits largest [] h = absurd (omega arith)
number_to-digits largest (b ∷ bs) h = refl
