-- Elements of SVG, spelled with their attributes.
use Rattle.std.specs.Prelude.{ℕ, List, ◌++◌, codes, decimal}
use Rattle.std.specs.List.{flat_map}
use Rattle.dis_records.specs.Texts.{entity_text, state_text}
use Rattle.siman_print.specs.Spelled.{address_text}
use Rattle.exercise_chart.specs.Clock.{clock_text}
use Rattle.exercise_chart.specs.declared.element.Attribute.{Attribute}
use Rattle.exercise_chart.specs.declared.element.Shown.{Shown}
use Rattle.exercise_chart.specs.declared.element.Shown.TheVariants as shown

-- an attribute with a key and a number
abbrev pub number : (key : List ℕ) → ℕ → List ℕ × List ℕ
number key n = (key, decimal n)

-- an attribute with a key and a word
abbrev pub word : (key value : List ℕ) → List ℕ × List ℕ
word key value = (key, value)

-- an attribute after a blank: KEY="VALUE"
abbrev pub attribute_text : List ℕ × List ℕ → List ℕ
attribute_text attribute = codes " " ++ attribute.0 ++ codes "=\"" ++ attribute.1 ++ codes "\""

abbrev pub attributes_text : List (List ℕ × List ℕ) → List ℕ
attributes_text attributes = flat_map attribute_text attributes

-- AN EMPTY ELEMENT: <NAME KEY="VALUE" ../>
unfoldable pub element_text : (name : List ℕ) → List (List ℕ × List ℕ) → List ℕ
element_text name attributes = codes "<" ++ name ++ attributes_text attributes ++ codes "/>\n"

-- the start tag of words: <text KEY="VALUE" ..>
unfoldable pub begun_words : List (List ℕ × List ℕ) → List ℕ
begun_words attributes = codes "<text" ++ attributes_text attributes ++ codes ">"

-- WORDS: <text KEY="VALUE" ..>WORD</text>
abbrev pub words_text : List (List ℕ × List ℕ) → List ℕ → List ℕ
words_text attributes said = begun_words attributes ++ said ++ codes "</text>\n"

-- ---- values of the program

-- the text of a value
abbrev pub shown_text : Shown → List ℕ
shown_text (shown.Number n) = decimal n
shown_text (shown.Word word) = word.now
shown_text (shown.Entity id) = entity_text id
shown_text (shown.State state) = state_text state
shown_text (shown.Address address) = address_text address
shown_text (shown.SiteApplication outsider) = address_text outsider
shown_text (shown.Clock unit stamp) = clock_text unit stamp
shown_text shown.Missing = codes "-"

-- the key and the text of an attribute
abbrev pub attribute_of : Attribute → List ℕ × List ℕ
attribute_of attribute = (attribute.0.now, shown_text attribute.1)
