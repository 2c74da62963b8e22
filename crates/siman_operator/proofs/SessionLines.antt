-- The lines of a text that were read.
use Rattle.std.proofs.Common.{◌≡◌, ℕ, ◌+◌, ◌<◌, List, [], ◌∷◌, ◌++◌, length, take, refl, sym, ap, ◌∙◌, inl, inr, arith, append_assoc, append-nil, length-take-le, take_all}
use Rattle.std.specs.Prelude.{Option, Some, None}
use Rattle.std.specs.List.{AllByRecursion}
use Rattle.std.specs.Io.KnownBytes.{IsAtEnd}
use Rattle.std.proofs.lemmas.Bool.{cases_lt}
use Rattle.std.proofs.lemmas.Bool.Decides.{nat_tests}
use Rattle.byte_files.specs.Text.{lines_of}
use Rattle.siman_operator.specs.declared.reading.TheConstants.{LONGEST_LINE}
use Rattle.byte_files.specs.Lines.{IsOneLine, ReadsLine, ReadsLines, HoldsLine, AreLines, AreFirstLines}
use Rattle.siman_operator.specs.Reading.{said_by}

pub reads-none : (a : Option (List ℕ)) → ReadsLines a a []
reads-none None = tt
reads-none (Some bytes) = refl

all_more : (lines : List (List ℕ)) (line : List ℕ) → AllByRecursion IsOneLine lines → IsOneLine line → AllByRecursion IsOneLine (lines ++ line ∷ [])
all_more [] line all one = (one, tt)
all_more (first ∷ lines) line all one = (all.0, all_more lines line all.1 one)

pub reads-more : (a b c : Option (List ℕ)) (lines : List (List ℕ)) (line : List ℕ) → ReadsLines a b lines → IsOneLine line → ReadsLine b c line
    → ReadsLines a c (lines ++ line ∷ [])
reads-more None b c lines line before one next = all_more lines line before one
reads-more (Some x) None c lines line before one next = absurd before
reads-more (Some x) (Some y) None lines line before one next = absurd next
reads-more (Some x) (Some y) (Some z) lines line before one next =
    before ∙ ap (λ ls. lines ++ ls) next ∙ sym (append_assoc lines (line ∷ []) (lines_of z))

-- All lines were read.
pub all_lines : (a b : Option (List ℕ)) (lines : List (List ℕ)) → ReadsLines a b lines → IsAtEnd b → AreLines a lines
all_lines None b lines read end = read
all_lines (Some x) None lines read end = absurd read
all_lines (Some x) (Some y) lines read end = read ∙ ap (λ bytes. lines ++ lines_of bytes) end ∙ append-nil lines

-- The first ones were.
pub first_lines : (a b : Option (List ℕ)) (lines : List (List ℕ)) → ReadsLines a b lines → AreFirstLines a lines
first_lines None b lines read = read
first_lines (Some x) None lines read = absurd read
first_lines (Some x) (Some y) lines read = (lines_of y, read)

-- too long a line says nothing that may be said
said_by-long : (line : List ℕ) → LONGEST_LINE < length line → said_by line ≡ None
said_by-long line long = grind (arith, nat_tests)

-- As much of a line as is held says what the line says.
said_by-cut : (line : List ℕ) → said_by (take (LONGEST_LINE + 1) line) ≡ said_by line
said_by-cut line = elim (cases_lt (length line) (LONGEST_LINE + 1)) [
  | inl short ↦ ap said_by (take_all (LONGEST_LINE + 1) line (omega arith))
  | inr long ↦
      let front = take (LONGEST_LINE + 1) line in
      let size = length-take-le (LONGEST_LINE + 1) line long in
      said_by-long front (omega arith) ∙ sym (said_by-long line (omega arith))
]

pub said_by-held : {b c : Option (List ℕ)} {buffer : List ℕ} {held : ℕ} → length buffer ≡ LONGEST_LINE + 1 → (holds : HoldsLine b c buffer held)
    → said_by (take held buffer) ≡ said_by holds.line
said_by-held {buffer = buffer} size holds = ap said_by (holds.front ∙ ap (λ n. take n holds.line) size) ∙ said_by-cut holds.line
