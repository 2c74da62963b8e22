-- The fields of a row as they are printed: the text before and behind a value, in either spelling.
use Rattle.std.specs.Prelude.{ℕ, List, [], ◌++◌, codes, Option, Some, None}
use Rattle.siman_print.specs.declared.spelling.Spelling.{Spelling}
use Rattle.siman_print.specs.declared.spelling.Spelling.TheVariants.{Text, Json}
use Rattle.siman_print.specs.Line.{Value, Missing}
use Rattle.siman_print.specs.Spelled.{value_text, value_json}

-- a value, given its key
abbrev pub value_spelled : Spelling → (key : List ℕ) → Value → List ℕ
value_spelled Text key value = value_text value
value_spelled Json key value = value_json key value

-- a value that may be missing
abbrev pub option_value : {X : Type 0} → (X → Value) → Option X → Value
option_value value None = Missing
option_value value (Some x) = value x

-- the text before a value with a key, and before a value that has a key in JSON alone
abbrev pub keyed_before : Spelling → (key : List ℕ) → List ℕ
keyed_before Text key = codes " " ++ key ++ codes "="
keyed_before Json key = codes ",\"" ++ key ++ codes "\":"

abbrev pub bare_before : Spelling → (key : List ℕ) → List ℕ
bare_before Text key = codes " "
bare_before Json key = codes ",\"" ++ key ++ codes "\":"

-- the text on both sides of a word
abbrev pub quote : Spelling → List ℕ
quote Text = []
quote Json = codes "\""
