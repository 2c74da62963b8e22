-- Rows that are written after others are the rows of both lists.
use Rattle.std.proofs.Common.{◌≡◌, ℕ, List, ◌++◌, sym, ap, ◌∙◌, append_assoc}
use Rattle.std.proofs.lemmas.Grind.{flat_map-append}
use Rattle.siman_print.specs.declared.spelling.Spelling.{Spelling}
use Rattle.siman_print.specs.Line.{Line}
use Rattle.siman_print.specs.Spelled.{line_spelled, lines_spelled}

pub rows_joined : (s : Spelling) → (xs ys : List Line) → (before : List ℕ) {between after : List ℕ} → between ≡ before ++ lines_spelled s xs → after ≡ between ++ lines_spelled s ys
    → after ≡ before ++ lines_spelled s (xs ++ ys)
rows_joined s xs ys before first second =
    second ∙ ap (λ (t : List ℕ). t ++ lines_spelled s ys) first ∙ append_assoc before (lines_spelled s xs) (lines_spelled s ys)
    ∙ ap (λ (t : List ℕ). before ++ t) (sym (flat_map-append (line_spelled s) xs ys))
