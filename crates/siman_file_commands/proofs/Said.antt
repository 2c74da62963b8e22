-- Lines behind lines, in a text that was empty.
use Rattle.std.proofs.Common.{◌≡◌, ℕ, List, [], ◌++◌, sym, ap, ◌∙◌}
use Rattle.std.proofs.lemmas.List.Concat.{flat_map-append}
use Rattle.siman_print.specs.declared.spelling.Spelling.{Spelling}
use Rattle.siman_print.specs.Line.{Line}
use Rattle.siman_print.specs.Spelled.{line_spelled, lines_spelled}

pub said_behind : (spelling : Spelling) (start mid new : List ℕ) (xs ys : List Line) → start ≡ [] → mid ≡ start ++ lines_spelled spelling xs
    → new ≡ mid ++ lines_spelled spelling ys → new ≡ lines_spelled spelling (xs ++ ys)
said_behind spelling start mid new xs ys empty first second =
    second ∙ ap (λ v. v ++ lines_spelled spelling ys) (first ∙ ap (λ v. v ++ lines_spelled spelling xs) empty)
    ∙ sym (flat_map-append (line_spelled spelling) xs ys)
