-- A line by itself has a reason to be refused exactly where it says nothing.
use Rattle.std.proofs.Common.{◌≡◌, ℕ, ◌+◌, Bool, true, false, cond, nat_lt, nat_le, not, ◌&&◌, suc, drop, List, [], ◌∷◌, length, Option, Some, None, refl, ◌∙◌, arith}
use Rattle.std.specs.List.{position_or_len}
use Rattle.std.specs.Option.{option_map, option_or, is_some, is_none}
use Rattle.std.proofs.lemmas.Bool.Decides.{nat_tests}
use Rattle.siman_scripts.specs.declared.statement.Statement.{Statement}
use Rattle.siman_scripts.specs.declared.statement.Statement.TheVariants as says
use Rattle.siman_scripts.specs.declared.why.LineWhy.{LineWhy}
use Rattle.byte_files.specs.Text.{is_ascii, words_of}
use Rattle.siman_scripts.specs.Statement.{form_of, is_passed_over, statement_of}
use Rattle.siman_scripts.specs.Words.{placed_words_of}
use Rattle.siman_scripts.specs.LineReason.{Told, foreign_why, spacing_first, form_reason, ascii_reason, line_reason}
use Rattle.siman_scripts.proofs.Placed.{placed_from-words}
use Rattle.siman_scripts.proofs.FormReasons.{words_have_reason}

foreign_step : (b : ℕ) (here : Bool) (k n : ℕ) (all : Bool) → nat_le 128 b ≡ here → nat_lt k n ≡ not all
    → nat_lt (cond (not here) (1 + k) 0) (suc n) ≡ not (nat_lt b 128 && all)
foreign_step b true k n all e h = grind (arith, nat_tests)
foreign_step b false k n all e h = grind (arith, nat_tests)

-- there is a byte that is not ASCII, or all are
foreign_place : (bs : List ℕ) → nat_lt (position_or_len (λ b. nat_le 128 b) bs) (length bs) ≡ not (is_ascii bs)
foreign_place [] = refl
foreign_place (b ∷ bs) = foreign_step b (nat_le 128 b) (position_or_len (λ x. nat_le 128 x) bs) (length bs) (is_ascii bs) refl (foreign_place bs)

foreign_at : (here all : Bool) (k : ℕ) (ascii : Told) (said : Option Statement) (told : ℕ → LineWhy) → here ≡ not all → is_none ascii ≡ is_some said
    → is_none (option_or (option_map (λ i. (i + 1, told i)) (cond here (Some k) None)) ascii) ≡ is_some (cond all said None)
foreign_at true true k ascii said told e h = cc
foreign_at true false k ascii said told e h = refl
foreign_at false true k ascii said told e h = h
foreign_at false false k ascii said told e h = cc

spaced : (line : List ℕ) (told : Told) → is_none (spacing_first line told) ≡ is_none told
spaced line None = refl
spaced line (Some reason) = refl

worded : (line : List ℕ) (passed : Bool) → is_none (cond passed None (spacing_first line (form_reason (length line + 1) (placed_words_of line)))) ≡ is_some (cond passed (Some says.Nothing) (form_of (words_of line)))
worded line true = refl
worded line false =
    spaced line (form_reason (length line + 1) (placed_words_of line)) ∙ (words_have_reason (length line + 1) (placed_words_of line) ∙ rw (placed_from-words 1 (words_of line)))

-- A LINE HAS A REASON TO BE REFUSED EXACTLY WHERE IT SAYS NOTHING
pub line_has_reason : (line : List ℕ) → is_none (line_reason line) ≡ is_some (statement_of line)
line_has_reason line =
    let first = position_or_len (λ b. nat_le 128 b) line in
    foreign_at (nat_lt first (length line)) (is_ascii line) first (ascii_reason line) (cond (is_passed_over line) (Some says.Nothing) (form_of (words_of line))) (λ i. foreign_why (drop i line))
    (foreign_place line) (worded line (is_passed_over line))
