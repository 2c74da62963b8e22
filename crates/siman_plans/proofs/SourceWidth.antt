-- How many bytes the parts of a line take.
use Rattle.std.proofs.Common.{◌≡◌, ℕ, ◌+◌, ◌-◌, ◌<◌, ◌≤◌, Bool, true, false, cond, eqb, List, [], ◌∷◌, length, take, Option, Some, None, IfSome, refl, ◌∙◌, arith, length-take}
use Rattle.std.specs.List.{onto_first, slice_get}
use Rattle.std.specs.Option.{option_and_then, unwrap_or}
use Rattle.siman_scripts.proofs.Placed.{width}
use Rattle.siman_plans.specs.SourceWords.{cut_end, without_return, is_gap, parts_of}

width_first : (b : ℕ) (ws : List (List ℕ)) → 0 < width ws → width (onto_first b ws) ≡ width ws + 1
width_first b [] h = absurd (omega arith)
width_first b (w ∷ ws) h = omega arith

width_step : (b : ℕ) (here : Bool) (ws : List (List ℕ)) (n : ℕ) → width ws ≡ n + 1 → width (cond here ([] ∷ ws) (onto_first b ws)) ≡ n + 1 + 1
width_step b true ws n h = omega arith
width_step b false ws n h = width_first b ws (omega arith) ∙ omega arith

-- the parts of a line take its bytes and one more
pub width-parts : (bs : List ℕ) → width (parts_of bs) ≡ length bs + 1
width-parts [] = refl
width-parts (b ∷ bs) = width_step b (is_gap b) (parts_of bs) (length bs) (width-parts bs) ∙ omega arith

cut_short : (line : List ℕ) (o : Option (List ℕ)) → IfSome o (λ b. length b ≤ length line) → length (unwrap_or o line) ≤ length line
cut_short line None h = omega arith
cut_short line (Some b) h = h

short_if : (line : List ℕ) (here : Bool) → IfSome (cond here (Some (take (length line - 1) line)) None) (λ b. length b ≤ length line)
short_if line true = omega (arith, length-take (length line - 1) line)
short_if line false = tt

taken_short : (c : ℕ) (line : List ℕ) (end : Option ℕ) → IfSome (option_and_then (λ last. cond (eqb last c) (Some (take (length line - 1) line)) None) end) (λ b. length b ≤ length line)
taken_short c line None = tt
taken_short c line (Some last) = short_if line (eqb last c)

-- a line without its carriage return is not longer
pub length-without_return : (line : List ℕ) → length (without_return line) ≤ length line
length-without_return line = cut_short line (cut_end 13 line) (taken_short 13 line (slice_get line (length line - 1)))
