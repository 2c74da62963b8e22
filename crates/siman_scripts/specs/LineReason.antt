-- Why a line by itself is refused (profile).
use Rattle.std.specs.Prelude.{ℕ, ◌+◌, Bool, true, false, ◌==◌, ◌&&◌, nat_le, List, [], ◌∷◌, length, drop, position, slice_index, Option, Some, None, unwrap_or, if◌then◌else◌}
use Rattle.std.specs.Option.{option_map, option_or}
use Rattle.siman_scripts.specs.declared.form.LineForm.{LineForm}
use Rattle.siman_scripts.specs.declared.form.Next.{Next}
use Rattle.siman_scripts.specs.declared.form.Next.TheVariants.{Needed, Optional, End}
use Rattle.siman_scripts.specs.declared.why.LineWhy.{LineWhy}
use Rattle.siman_scripts.specs.declared.why.LineWhy.TheVariants as whys
use Rattle.siman_scripts.specs.declared.word_kind.WordKind.{WordKind}
use Rattle.siman_scripts.specs.Statement.{is_passed_over}
use Rattle.siman_scripts.specs.Words.{placed_words_of}
use Rattle.siman_scripts.specs.Forms.{fits, form_named, next_word}
use Rattle.siman_scripts.specs.Nearest.{nearest}

-- a column, and why the line is refused there; or none
abbrev pub Told : Type 0
Told = Option (ℕ × LineWhy)

-- Bytes.

-- the bytes begin with a byte order mark
abbrev pub is_mark : List ℕ → Bool
is_mark bs = (slice_index bs 0 == 239) && ((slice_index bs 1 == 187) && (slice_index bs 2 == 191))

abbrev pub foreign_why : List ℕ → LineWhy
foreign_why bs = if is_mark bs then whys.ByteOrderMark else whys.NotAscii

-- the first byte that is not ASCII
abbrev pub foreign_reason : List ℕ → Told
foreign_reason line = option_map (λ i. (i + 1, foreign_why (drop i line))) (position (λ b. nat_le 128 b) line)

-- the reason of a blank in this column, behind this byte
abbrev pub blank_why : ℕ → ℕ → Bool → Option LineWhy
blank_why column before last =
    if column == 1 then Some whys.BlankAtBegin
    else if before == 32 then Some whys.TwoBlanks
    else if last then Some whys.BlankAtEnd
    else None

-- the reason of a byte in this column, behind another one; the last argument says whether it is the last of its
-- line
abbrev pub byte_why : ℕ → ℕ → ℕ → Bool → Option LineWhy
byte_why column before b last =
    if b == 9 then Some whys.Tab
    else if b == 13 then Some (if last then whys.CarriageReturnAtEnd else whys.CarriageReturn)
    else if b == 32 then blank_why column before last
    else None

abbrev pub is_end : List ℕ → Bool
is_end [] = true
is_end (b ∷ bs) = false

-- the first tab, carriage return or blank too many, from this column on
abbrev pub spacing_from : ℕ → ℕ → List ℕ → Told
spacing_from before column [] = None
spacing_from before column (b ∷ bs) = option_or (option_map (λ why. (column, why)) (byte_why column before b (is_end bs))) (spacing_from b (column + 1) bs)

abbrev pub spacing_reason : List ℕ → Told
spacing_reason line = spacing_from 0 1 line

-- Words.

abbrev pub is_comment : List ℕ → Bool
is_comment [] = false
is_comment (b ∷ bs) = b == 35

-- the reason of a word too many in a line of this form
abbrev pub extra_why : LineForm → List ℕ → LineWhy
extra_why form word = if is_comment word then whys.Comment form else whys.TooMany form

-- the reason of a word of another kind, where a line of this form may end
abbrev pub optional_why : LineForm → WordKind → List ℕ → LineWhy
optional_why form kind word = if is_comment word then whys.Comment form else whys.Wrong form kind

-- the reason of a word in a line of this form, where this may follow
abbrev pub word_reason : LineForm → Next → ℕ × List ℕ → Told
word_reason form (Needed kind) p = if fits kind p.1 then None else Some (p.0, whys.Wrong form kind)
word_reason form (Optional kind) p = if fits kind p.1 then None else Some (p.0, optional_why form kind p.1)
word_reason form End p = Some (p.0, extra_why form p.1)

-- the reason of the end of a line in this column, where this may follow
abbrev pub end_reason : LineForm → Next → ℕ → Told
end_reason form (Needed kind) column = Some (column, whys.Missing form kind)
end_reason form (Optional kind) column = None
end_reason form End column = None

-- the reason of the words from a place on behind the name of a form; the line ends before this column
abbrev pub words_reason : LineForm → ℕ → ℕ → List (ℕ × List ℕ) → Told
words_reason form place column [] = end_reason form (next_word form place) column
words_reason form place column (p ∷ ps) = option_or (word_reason form (next_word form place) p) (words_reason form (place + 1) column ps)

-- the reason of the words of a line, given its form
abbrev pub named_reason : ℕ → ℕ × List ℕ → List (ℕ × List ℕ) → Option LineForm → Told
named_reason column p ps (Some form) = words_reason form 0 column ps
named_reason column p ps None = Some (p.0, whys.UnknownName (nearest p.1))

abbrev pub form_reason : ℕ → List (ℕ × List ℕ) → Told
form_reason column [] = Some (column, whys.UnknownName None)
form_reason column (p ∷ ps) = named_reason column p ps (form_named p.1)

-- what is wrong with the spaces of a line comes before what is wrong with its words
abbrev pub spacing_first : List ℕ → Told → Told
spacing_first line None = None
spacing_first line (Some reason) = Some (unwrap_or (spacing_reason line) reason)

-- the reason of a line of ASCII
abbrev pub ascii_reason : List ℕ → Told
ascii_reason line =
    if is_passed_over line then None else spacing_first line (form_reason (length line + 1) (placed_words_of line))

-- WHY A LINE BY ITSELF IS REFUSED, and in which column: first a byte that is not ASCII, then its spaces, then its words
abbrev pub line_reason : List ℕ → Told
line_reason line = option_or (foreign_reason line) (ascii_reason line)
