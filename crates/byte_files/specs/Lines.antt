-- How the lines of a text are read, each into a buffer (profile).
use Rattle.std.specs.Prelude.{◌≡◌, ◌≢◌, ◌≤◌, ⊤, ℕ, List, [], ◌∷◌, ◌++◌, length, take, nat_le, Option, Some, None, if◌then◌else◌}
use Rattle.std.specs.List.{AllByRecursion}
use Rattle.std.specs.Io.KnownBytes.{IsAtEnd}
use Rattle.byte_files.specs.Text.{lines_of}

-- no byte of it is a line feed (10)
abbrev pub IsOneLine : List ℕ → Type 0
IsOneLine [] = ⊤
IsOneLine (b ∷ bs) = (b ≢ 10) × IsOneLine bs

-- from known bytes this line was read, and the rest has the remaining lines
abbrev pub ReadsLine : (old new : Option (List ℕ)) → List ℕ → Type 0
ReadsLine None new line = ⊤
ReadsLine (Some bytes) None line = ⊥
ReadsLine (Some bytes) (Some rest) line = lines_of bytes ≡ line ∷ lines_of rest

-- the same for several lines; unknown bytes may give any lines
abbrev pub ReadsLines : (old new : Option (List ℕ)) → List (List ℕ) → Type 0
ReadsLines None new lines = AllByRecursion IsOneLine lines
ReadsLines (Some bytes) None lines = ⊥
ReadsLines (Some bytes) (Some rest) lines = lines_of bytes ≡ lines ++ lines_of rest

-- a line was read, whose first `held` bytes are at the front of the buffer: all of it, or as many as fit
pub record HoldsLine (old new : Option (List ℕ)) (buffer : List ℕ) (held : ℕ) : Type 0 where
  pub line : List ℕ
  pub one : IsOneLine line
  pub read : ReadsLine old new line
  pub within : held ≤ length buffer
  pub front : take held buffer ≡ take (length buffer) line

-- a line was read, or the text is at its end
abbrev pub ReadsNext : (old new : Option (List ℕ)) → (buffer : List ℕ) → Option ℕ → Type 0
ReadsNext old new buffer None = IsAtEnd old
ReadsNext old new buffer (Some held) = HoldsLine old new buffer held

-- THE LINES OF A TEXT; any lines, if its bytes are unknown
abbrev pub AreLines : (known : Option (List ℕ)) → List (List ℕ) → Type 0
AreLines None lines = AllByRecursion IsOneLine lines
AreLines (Some bytes) lines = lines_of bytes ≡ lines

-- the first lines of a text; any lines, if its bytes are unknown
abbrev pub AreFirstLines : (known : Option (List ℕ)) → List (List ℕ) → Type 0
AreFirstLines None lines = AllByRecursion IsOneLine lines
AreFirstLines (Some bytes) lines = (rest : List (List ℕ)) × (lines_of bytes ≡ lines ++ rest)
