-- The row of a count.
use Rattle.std.specs.Prelude.{ℕ, List, [], ◌∷◌}
use Rattle.siman_print.specs.Line.{Number, Keyed, Line, named_line}

-- WORD KEY=N
abbrev pub counted : (word key : List ℕ) → (count : ℕ) → Line
counted word key count = named_line word (Keyed key (Number count) ∷ [])
