-- Bytes fetched from a reader.
use Rattle.std.specs.Prelude.{ℕ, ◌+◌, ◌≤◌, List, length, take, Option}
use Rattle.std.specs.Io.KnownBytes.{Consumes}

-- the bytes fetched from a reader with these bytes: at most one more than `most`
abbrev pub fetched : (most : ℕ) → List ℕ → List ℕ
fetched most bytes = take (most + 1) bytes

-- the reader loses bytes at its front, at most `most`
abbrev pub LosesAtMost : (most : ℕ) → (old new : Option (List ℕ)) → Type 0
LosesAtMost most old new = (lost : List ℕ) × (length lost ≤ most) × Consumes old new lost
