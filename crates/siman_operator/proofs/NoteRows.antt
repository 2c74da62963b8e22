-- The rows that a function gives for 0, 1 and so on, one more.
use Rattle.std.proofs.Common.{◌≡◌, ℕ, ◌+◌, List, ◌++◌, sym, ap, ◌∙◌, add-one, append_assoc, append-nil}
use Rattle.std.proofs.lemmas.List.Concat.{flat_map-append}
use Rattle.siman_print.specs.declared.spelling.Spelling.TheVariants.{Text}
use Rattle.siman_print.specs.Line.{Line}
use Rattle.siman_print.specs.Spelled.{line_spelled, lines_spelled}
use Rattle.siman_operator.specs.Notes.{rows_below}

pub begins : (f : ℕ → List Line) (text : List ℕ) → text ≡ text ++ lines_spelled Text (rows_below f 0)
unfolding rows_below
begins f text = sym (append-nil text)

-- rows behind rows
pub behind : (first second : List Line) (start old new : List ℕ) → old ≡ start ++ lines_spelled Text first → new ≡ old ++ lines_spelled Text second
    → new ≡ start ++ lines_spelled Text (first ++ second)
behind first second start old new before here =
    here
    ∙ ap (λ xs. xs ++ lines_spelled Text second) before
    ∙ append_assoc start (lines_spelled Text first) (lines_spelled Text second)
    ∙ ap (λ xs. start ++ xs) (sym (flat_map-append (line_spelled Text) first second))

pub goes_on : (f : ℕ → List Line) (n : ℕ) (start old new : List ℕ) → old ≡ start ++ lines_spelled Text (rows_below f n)
    → new ≡ old ++ lines_spelled Text (f n) → new ≡ start ++ lines_spelled Text (rows_below f (n + 1))
unfolding rows_below
goes_on f n start old new before here =
    behind (rows_below f n) (f n) start old new before here
    ∙ ap (λ k. start ++ lines_spelled Text (rows_below f k)) (sym (add-one n))
