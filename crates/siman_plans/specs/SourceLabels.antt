-- The labels of the lines of a source so far (profile).
use Rattle.std.specs.Prelude.{ℕ, Bool, List, [], ◌∷◌, ◌++◌, position, Option, if◌then◌else◌}
use Rattle.std.specs.List.{list_any}
use Rattle.std.specs.Str.{bytes_eq}

-- the index of a label, if a line before gives it
abbrev pub label_at : (labels : List (List ℕ)) → (word : List ℕ) → Option ℕ
label_at labels word = position (λ l. bytes_eq word l) labels

-- a line before gives this label
abbrev pub is_given : (labels : List (List ℕ)) → (word : List ℕ) → Bool
is_given labels word = list_any (λ l. bytes_eq word l) labels

-- the labels with one more, if no line before gives it
abbrev pub given : (labels : List (List ℕ)) → (word : List ℕ) → List (List ℕ)
given labels word = if is_given labels word then labels else labels ++ word ∷ []
