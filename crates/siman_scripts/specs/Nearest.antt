-- The name that is nearest to a word: letters of the other case, or an edit or two (profile).
use Rattle.std.specs.Prelude.{ℕ, ◌+◌, Bool, false, ◌==◌, ◌&&◌, ◌||◌, nat_lt, List, [], ◌∷◌, length, drop, find, Option, if◌then◌else◌}
use Rattle.std.specs.Option.{option_or}
use Rattle.std.specs.Str.{bytes_eq, str_to_ascii_lowercase}
use Rattle.siman_scripts.specs.declared.form.LineForm.{LineForm}
use Rattle.siman_scripts.specs.Forms.{form_name, form_named, all_forms}

-- the length of the longest common prefix of two words
abbrev pub common_length : List ℕ → List ℕ → ℕ
common_length [] ys = 0
common_length (x ∷ xs) [] = 0
common_length (x ∷ xs) (y ∷ ys) = if x == y then common_length xs ys + 1 else 0

-- the first two bytes of one word are those of the other, swapped
abbrev pub is_swapped : List ℕ → List ℕ → Bool
is_swapped (x ∷ x' ∷ xs) (y ∷ y' ∷ ys) = (x == y') && (x' == y)
is_swapped xs ys = false

-- one byte of one of them is left out, changed, or swapped with the next, and the rests pass the test
abbrev pub edited_alike : (List ℕ → List ℕ → Bool) → List ℕ → List ℕ → Bool
edited_alike alike xs ys =
    alike (drop 1 xs) (drop 1 ys) || (alike (drop 1 xs) ys || (alike xs (drop 1 ys) || (is_swapped xs ys && alike (drop 2 xs) (drop 2 ys))))

-- at most one edit makes one word of another
abbrev pub is_one_edit : List ℕ → List ℕ → Bool
is_one_edit xs ys = edited_alike bytes_eq (drop (common_length xs ys) xs) (drop (common_length xs ys) ys)

-- at most two edits make one word of another
abbrev pub is_two_edits : List ℕ → List ℕ → Bool
is_two_edits xs ys = edited_alike is_one_edit (drop (common_length xs ys) xs) (drop (common_length xs ys) ys)

-- a name of five letters or more may be two edits away
abbrev pub is_far : List ℕ → LineForm → Bool
is_far word form = nat_lt 4 (length (form_name form)) && is_two_edits word (form_name form)

-- the first form whose name is one edit away, and the first that is two away
abbrev pub near_form : List ℕ → Option LineForm
near_form word = find (λ form. is_one_edit word (form_name form)) all_forms

abbrev pub far_form : List ℕ → Option LineForm
far_form word = find (is_far word) all_forms

-- the form whose name is this word, else one that is one edit away, else one that is two away
abbrev pub nearest_of : List ℕ → Option LineForm
nearest_of word = option_or (option_or (form_named word) (near_form word)) (far_form word)

-- THE NEAREST NAME, whatever the case of the word's letters
abbrev pub nearest : List ℕ → Option LineForm
nearest word = nearest_of (str_to_ascii_lowercase word)
