-- The words of a line of a source, each with its column (profile).
use Rattle.std.specs.Prelude.{ℕ, ◌+◌, ◌-◌, Bool, false, ◌==◌, ◌||◌, ◌&&◌, not, nat_le, List, [], ◌∷◌, length, take, drop, codes, position, slice_get, Option, Some, None, unwrap_or, if◌then◌else◌}
use Rattle.std.specs.List.{slice_split, list_all}
use Rattle.std.specs.Option.{option_map, option_or}
use Rattle.std.specs.Str.{bytes_eq}
use Rattle.byte_files.specs.Text.{cut_at, ◌>>=◌}
use Rattle.siman_scripts.specs.LineReason.{is_mark, is_comment, is_end}

-- the text without a byte order mark (EF BB BF) at its start
abbrev pub without_mark : List ℕ → List ℕ
without_mark text = if is_mark text then drop 3 text else text

-- the bytes before the last, if that is this byte
abbrev pub cut_end : ℕ → List ℕ → Option (List ℕ)
cut_end c bytes = do
  last ← slice_get bytes (length bytes - 1)
  if last == c then Some (take (length bytes - 1) bytes) else None

-- the line without a carriage return (13) at its end
abbrev pub without_return : List ℕ → List ℕ
without_return line = unwrap_or (cut_end 13 line) line

-- a blank (32) and a tab (9) part words
abbrev pub is_gap : ℕ → Bool
is_gap b = (b == 32) || (b == 9)

-- the parts of a line between gaps; a part may be empty
abbrev pub parts_of : List ℕ → List (List ℕ)
parts_of line = slice_split is_gap line

-- the words of parts from this column on, with their columns: an empty part is no word, and a part that begins with `#`
-- begins a comment
abbrev pub words_from : (column : ℕ) → List (List ℕ) → List (ℕ × List ℕ)
words_from column [] = []
words_from column (p ∷ ps) =
    if is_comment p then []
    else if is_end p then words_from (column + length p + 1) ps
    else (column, p) ∷ words_from (column + length p + 1) ps

-- THE WORDS OF A LINE OF A SOURCE WITH THEIR COLUMNS, which are counted in bytes from 1
abbrev pub source_words : List ℕ → List (ℕ × List ℕ)
source_words line = words_from 1 (parts_of (without_return line))

-- the column behind the last word of parts from this column on, where the words before them end in column `last`
abbrev pub end_from : (last column : ℕ) → List (List ℕ) → ℕ
end_from last column [] = last
end_from last column (p ∷ ps) =
    if is_comment p then last
    else if is_end p then end_from last (column + length p + 1) ps
    else end_from (column + length p) (column + length p + 1) ps

-- the column behind the last word of a line
abbrev pub words_end : List ℕ → ℕ
words_end line = end_from 1 1 (parts_of (without_return line))

-- printable ASCII, without the blank
abbrev pub is_printable : ℕ → Bool
is_printable b = nat_le 33 b && nat_le b 126

-- the column of the first byte of parts from this column on that is no printable ASCII and in no comment
abbrev pub unprintable_from : (column : ℕ) → List (List ℕ) → Option ℕ
unprintable_from column [] = None
unprintable_from column (p ∷ ps) =
    if is_comment p then None
    else option_or (option_map (λ i. column + i) (position (λ b. not (is_printable b)) p)) (unprintable_from (column + length p + 1) ps)

-- the column of the first byte of a line that is no printable ASCII and in no comment
abbrev pub unprintable_in : List ℕ → Option ℕ
unprintable_in line = unprintable_from 1 (parts_of (without_return line))

-- Labels.

abbrev pub is_letter : ℕ → Bool
is_letter b = (nat_le 65 b && nat_le b 90) || (nat_le 97 b && nat_le b 122)

-- a letter, a digit, `-` or `_`
abbrev pub is_label_byte : ℕ → Bool
is_label_byte b = is_letter b || ((nat_le 48 b && nat_le b 57) || ((b == 45) || (b == 95)))

abbrev pub begins_with_letter : List ℕ → Bool
begins_with_letter [] = false
begins_with_letter (b ∷ bs) = is_letter b

-- words that are no label
abbrev pub is_reserved : List ℕ → Bool
is_reserved word =
    bytes_eq word (codes "answer") || (bytes_eq word (codes "again") || (bytes_eq word (codes "as") || bytes_eq word (codes "all")))

-- A LABEL: a letter, then letters, digits, `-` and `_`, at most 64 in all; no reserved word
abbrev pub is_label : List ℕ → Bool
is_label word = begins_with_letter word && (list_all is_label_byte word && (nat_le (length word) 64 && not (is_reserved word)))

-- LABEL of `answer(LABEL)`
abbrev pub answer_name : List ℕ → Option (List ℕ)
answer_name word = do
  p ← cut_at 40 word
  if bytes_eq p.0 (codes "answer") then cut_end 41 p.1 else None
