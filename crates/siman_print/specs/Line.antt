-- A row: one printed line as a value, with a name and fields in order, each with a key and a value.
use Rattle.std.specs.Prelude.{ℕ, Bool, List, Option, Some, None}
use Rattle.dis_records.specs.declared.address.SiteApplication.{SiteApplication}

-- the value of a field
pub data Value : Type 0 where
  -- a number
  Number : ℕ → Value
  -- a 64-bit clock value of a station
  Clock : ℕ → Value
  -- a name, an identifier or hex: ASCII without quotes
  Word : List ℕ → Value
  -- a number, and its name, if it has one
  Named : ℕ → Option (List ℕ) → Value
  -- yes or no
  Truth : Bool → Value
  -- printable ASCII up to the end of the line
  Phrase : List ℕ → Value
  -- addresses, in order
  Ring : List SiteApplication → Value
  -- no value
  Missing : Value

-- a key and a value; in text: VALUE; KEY=VALUE; KEY VALUE; WORD=VALUE with a word other than the
-- key
pub data Field : Type 0 where
  Bare : (key : List ℕ) → Value → Field
  Keyed : (key : List ℕ) → Value → Field
  Spelt : (key : List ℕ) → Value → Field
  Called : (word key : List ℕ) → Value → Field

-- a name, the field that replaces it in text, and the fields after
pub record Line : Type 0 where
  pub name : List ℕ
  pub opening : Option Field
  pub fields : List Field

-- a row that begins with its name in text, and one that begins with a field instead
abbrev pub named_line : List ℕ → List Field → Line
named_line name fields = record { name = name; opening = None; fields = fields }

abbrev pub opened_line : List ℕ → Field → List Field → Line
opened_line name opening fields = record { name = name; opening = Some opening; fields = fields }
