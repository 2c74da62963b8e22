-- What is put behind something, one after the other.
use Rattle.std.proofs.Common.{◌≡◌, ℕ, List, [], ◌∷◌, ◌++◌, sym, ap, ◌∙◌, append_assoc, append-nil}
use Rattle.std.proofs.lemmas.List.Concat.{flat_map-append}
use Rattle.siman_print.specs.declared.spelling.Spelling.{Spelling}
use Rattle.siman_print.specs.Line.{Line}
use Rattle.siman_print.specs.Spelled.{line_spelled, lines_spelled}

pub behind_both : {X : Type 0} (start mid new xs ys : List X) → mid ≡ start ++ xs → new ≡ mid ++ ys → new ≡ start ++ (xs ++ ys)
behind_both start mid new xs ys first second = second ∙ ap (λ v. v ++ ys) first ∙ append_assoc start xs ys

-- lines behind a text
pub lines_join : (spelling : Spelling) (start mid new : List ℕ) (xs ys : List Line) → mid ≡ start ++ lines_spelled spelling xs → new ≡ mid ++ lines_spelled spelling ys
    → new ≡ start ++ lines_spelled spelling (xs ++ ys)
lines_join spelling start mid new xs ys first second =
    behind_both start mid new (lines_spelled spelling xs) (lines_spelled spelling ys) first second
    ∙ ap (λ v. start ++ v) (sym (flat_map-append (line_spelled spelling) xs ys))

-- and one line more
pub line_joins : (spelling : Spelling) (start mid new : List ℕ) (xs : List Line) (line : Line) → mid ≡ start ++ lines_spelled spelling xs → new ≡ mid ++ line_spelled spelling line
    → new ≡ start ++ lines_spelled spelling (xs ++ line ∷ [])
line_joins spelling start mid new xs line first second =
    lines_join spelling start mid new xs (line ∷ []) first (second ∙ ap (λ v. mid ++ v) (sym (append-nil (line_spelled spelling line))))
