-- The words of a line, each with its column (profile).
use Rattle.std.specs.Prelude.{◌≡◌, ℕ, ◌+◌, ◌-◌, List, [], ◌∷◌, length, take, drop}
use Rattle.byte_files.specs.Text.{words_of}

-- words in a row from this column on, each with the column of its first byte; single spaces separate them
abbrev pub placed_from : ℕ → List (List ℕ) → List (ℕ × List ℕ)
placed_from column [] = []
placed_from column (w ∷ ws) = (column, w) ∷ placed_from (column + length w + 1) ws

-- THE WORDS OF A LINE WITH THEIR COLUMNS, which are counted in bytes from 1
abbrev pub placed_words_of : List ℕ → List (ℕ × List ℕ)
placed_words_of line = placed_from 1 (words_of line)

-- the word is at its column in the line
abbrev pub IsPlacedAt : List ℕ → ℕ × List ℕ → Type 0
IsPlacedAt line p = take (length p.1) (drop (p.0 - 1) line) ≡ p.1
