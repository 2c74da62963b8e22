-- The two spellings of a row: text, and JSON with one object a line.
use Rattle.std.specs.Prelude.{ℕ, Bool, true, false, List, [], ◌∷◌, ◌++◌, codes, decimal, nat_eq, chars, encode_utf8, Option, Some, None, if◌then◌else◌}
use Rattle.std.specs.List.{flat_map}
use Rattle.dis_records.specs.declared.address.SiteApplication.{SiteApplication}
use Rattle.siman_print.specs.declared.spelling.Spelling.{Spelling}
use Rattle.siman_print.specs.declared.spelling.Spelling.TheVariants.{Text, Json}
use Rattle.siman_print.specs.Line.{Value, Number, Clock, Word, Named, Truth, Phrase, Ring, Missing, Field, Bare, Keyed, Spelt, Called, Line}

-- ---- text

-- SITE:APPLICATION
abbrev pub address_text : SiteApplication → List ℕ
address_text address = decimal address.site ++ codes ":" ++ decimal address.application

-- the name of a number, in brackets
abbrev pub name_text : Option (List ℕ) → List ℕ
name_text None = []
name_text (Some name) = codes "(" ++ name ++ codes ")"

abbrev pub truth_text : Bool → List ℕ
truth_text true = codes "yes"
truth_text false = codes "no"

-- an address after a blank
abbrev pub further_text : SiteApplication → List ℕ
further_text address = codes " " ++ address_text address

-- addresses with blanks between them
abbrev pub ring_text : List SiteApplication → List ℕ
ring_text [] = []
ring_text (address ∷ addresses) = address_text address ++ flat_map further_text addresses

abbrev pub value_text : Value → List ℕ
value_text (Number n) = decimal n
value_text (Clock n) = decimal n
value_text (Word word) = word
value_text (Named n name) = decimal n ++ name_text name
value_text (Truth holds) = truth_text holds
value_text (Phrase phrase) = phrase
value_text (Ring addresses) = ring_text addresses
value_text Missing = codes "-"

abbrev pub field_text : Field → List ℕ
field_text (Bare key value) = value_text value
field_text (Keyed key value) = key ++ codes "=" ++ value_text value
field_text (Spelt key value) = key ++ codes " " ++ value_text value
field_text (Called word key value) = word ++ codes "=" ++ value_text value

-- the name, or the field that replaces it
abbrev pub opening_text : List ℕ → Option Field → List ℕ
opening_text name None = name
opening_text name (Some field) = field_text field

-- ---- JSON

abbrev pub quoted : List ℕ → List ℕ
quoted word = codes "\"" ++ word ++ codes "\""

-- a `\` before each " and \
abbrev pub escaped_character : ℕ → List ℕ
escaped_character c = if nat_eq c 34 then codes "\\\"" else (if nat_eq c 92 then codes "\\\\" else encode_utf8 c)

abbrev pub escaped : List ℕ → List ℕ
escaped phrase = flat_map escaped_character (chars phrase)

-- the name of a number, or null
abbrev pub name_json : Option (List ℕ) → List ℕ
name_json None = codes "null"
name_json (Some name) = quoted name

abbrev pub truth_json : Bool → List ℕ
truth_json true = codes "true"
truth_json false = codes "false"

-- an address after a comma
abbrev pub further_json : SiteApplication → List ℕ
further_json address = codes "," ++ quoted (address_text address)

-- a list of addresses
abbrev pub ring_json : List SiteApplication → List ℕ
ring_json [] = codes "[]"
ring_json (address ∷ addresses) = codes "[" ++ quoted (address_text address) ++ flat_map further_json addresses ++ codes "]"

-- a value, given its key; a number with a name has a second key, KEY_name
abbrev pub value_json : List ℕ → Value → List ℕ
value_json key (Number n) = decimal n
value_json key (Clock n) = quoted (decimal n)
value_json key (Word word) = quoted word
value_json key (Named n name) = decimal n ++ codes ",\"" ++ key ++ codes "_name\":" ++ name_json name
value_json key (Truth holds) = truth_json holds
value_json key (Phrase phrase) = quoted (escaped phrase)
value_json key (Ring addresses) = ring_json addresses
value_json key Missing = codes "null"

-- a field after a comma
abbrev pub member_json : List ℕ → Value → List ℕ
member_json key value = codes ",\"" ++ key ++ codes "\":" ++ value_json key value

abbrev pub field_json : Field → List ℕ
field_json (Bare key value) = member_json key value
field_json (Keyed key value) = member_json key value
field_json (Spelt key value) = member_json key value
field_json (Called word key value) = member_json key value

-- the name, and the field that replaces it in text
abbrev pub opening_json : List ℕ → Option Field → List ℕ
opening_json name None = codes "{\"line\":\"" ++ name ++ codes "\""
opening_json name (Some field) = codes "{\"line\":\"" ++ name ++ codes "\"" ++ field_json field

-- ---- in a spelling

abbrev pub opening_spelled : Spelling → List ℕ → Option Field → List ℕ
opening_spelled Text name opening = opening_text name opening
opening_spelled Json name opening = opening_json name opening

abbrev pub field_spelled : Spelling → Field → List ℕ
field_spelled Text field = codes " " ++ field_text field
field_spelled Json field = field_json field

abbrev pub fields_spelled : Spelling → List Field → List ℕ
fields_spelled spelling fields = flat_map (field_spelled spelling) fields

abbrev pub end_spelled : Spelling → List ℕ
end_spelled Text = codes "\n"
end_spelled Json = codes "}\n"

-- A ROW IN A SPELLING, with its line end
abbrev pub line_spelled : Spelling → Line → List ℕ
line_spelled spelling line = opening_spelled spelling line.name line.opening ++ fields_spelled spelling line.fields ++ end_spelled spelling

-- ROWS, one after the other
abbrev pub lines_spelled : Spelling → List Line → List ℕ
lines_spelled spelling lines = flat_map (line_spelled spelling) lines

-- a row as text, and as JSON
abbrev pub line_text : Line → List ℕ
line_text line = line_spelled Text line

abbrev pub line_json : Line → List ℕ
line_json line = line_spelled Json line

abbrev pub lines_text : List Line → List ℕ
lines_text lines = lines_spelled Text lines
