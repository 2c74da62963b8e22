-- Lines, words and numbers of a script, without their meaning (profile).
use Rattle.std.specs.Prelude.{ℕ, ◌+◌, ◌-◌, ◌*◌, Bool, ◌==◌, ◌&&◌, nat_lt, nat_le, List, [], ◌∷◌, take, drop, position, Option, Some, None, if◌then◌else◌}
use Rattle.std.specs.Option.{option_map, option_and_then}
use Rattle.std.specs.List.{onto_first, slice_split, list_all}

-- what a second step makes of the value of the first
infixl 10 ◌>>=◌
abbrev pub ◌>>=◌ : {A B : Type 0} → Option A → (A → Option B) → Option B
o >>= f = option_and_then f o

-- the lines of a text: each ends with a line feed (10), which the last may lack
abbrev pub lines_of : List ℕ → List (List ℕ)
lines_of [] = []
lines_of (b ∷ bs) = if b == 10 then [] ∷ lines_of bs else onto_first b (lines_of bs)

-- all bytes are ASCII
abbrev pub is_ascii : List ℕ → Bool
is_ascii line = list_all (λ b. nat_lt b 128) line

-- the words of a line, which single spaces (32) separate
abbrev pub words_of : List ℕ → List (List ℕ)
words_of line = slice_split (λ b. b == 32) line

-- the parts of a word before and after the first byte c, if any
abbrev pub cut_at : ℕ → List ℕ → Option (List ℕ × List ℕ)
cut_at c word = option_map (λ i. (take i word, drop (i + 1) word)) (position (λ b. b == c) word)

abbrev pub is_digit : ℕ → Bool
is_digit b = nat_le 48 b && nat_le b 57

-- the number that decimal digits spell behind those of this number
abbrev pub digits_after : ℕ → List ℕ → Option ℕ
digits_after n [] = Some n
digits_after n (b ∷ bs) = if is_digit b then digits_after (10 * n + (b - 48)) bs else None

-- the number that a word of decimal digits spells; it may begin with zeros
abbrev pub number : List ℕ → Option ℕ
number [] = None
number (b ∷ bs) = digits_after 0 (b ∷ bs)

abbrev pub at_most : ℕ → Option ℕ → Option ℕ
at_most largest None = None
at_most largest (Some n) = if nat_le n largest then Some n else None

-- the number that a word spells, if it is in the range of its field
abbrev pub number_to : ℕ → List ℕ → Option ℕ
number_to largest word = at_most largest (number word)
