-- The keys of a row in JSON, and the test that no key occurs twice.
use Rattle.std.specs.Prelude.{ℕ, Bool, true, List, [], ◌∷◌, ◌++◌, ◌&&◌, ◌||◌, not, codes, bytes_eq, Option, Some, None}
use Rattle.std.specs.List.{flat_map}
use Rattle.siman_print.specs.Line.{Value, Number, Clock, Word, Named, Truth, Phrase, Ring, Missing, Field, Bare, Keyed, Spelt, Called, Line}

-- the keys of a value: that of its field, and a second one for a number with a name
abbrev pub keys_under : List ℕ → Value → List (List ℕ)
keys_under key (Number n) = key ∷ []
keys_under key (Clock n) = key ∷ []
keys_under key (Word word) = key ∷ []
keys_under key (Named n name) = key ∷ (key ++ codes "_name") ∷ []
keys_under key (Truth holds) = key ∷ []
keys_under key (Phrase phrase) = key ∷ []
keys_under key (Ring addresses) = key ∷ []
keys_under key Missing = key ∷ []

abbrev pub keys_of : Field → List (List ℕ)
keys_of (Bare key value) = keys_under key value
keys_of (Keyed key value) = keys_under key value
keys_of (Spelt key value) = keys_under key value
keys_of (Called word key value) = keys_under key value

abbrev pub opening_keys : Option Field → List (List ℕ)
opening_keys None = []
opening_keys (Some field) = keys_of field

abbrev pub line_keys : Line → List (List ℕ)
line_keys line = codes "line" ∷ (opening_keys line.opening ++ flat_map keys_of line.fields)

-- whether a word is among words
abbrev pub is_among : List ℕ → List (List ℕ) → Bool
is_among word [] = not true
is_among word (w ∷ ws) = bytes_eq word w || is_among word ws

abbrev pub are_apart : List (List ℕ) → Bool
are_apart [] = true
are_apart (word ∷ words) = not (is_among word words) && are_apart words

-- NO KEY OCCURS TWICE in the JSON of a row
abbrev pub has_no_key_twice : Line → Bool
has_no_key_twice line = are_apart (line_keys line)
