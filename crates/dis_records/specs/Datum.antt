-- Datum records (IEEE 1278.1-2012, 6.2.37 and 6.2.93).
use Rattle.std.specs.Prelude.{◌≡◌, ℕ, Bool, ◌+◌, ◌-◌, ◌*◌, ◌/◌, ◌==◌, ◌&&◌, List, [], ◌∷◌, ◌++◌, length}
use Rattle.std.specs.Int.{w32}
use Rattle.std.specs.Cmp.Lexicographic.{pointwise}
use Rattle.dis_records.specs.declared.datum.FixedDatum.{FixedDatum}
use Rattle.dis_records.specs.Layout.{Field, Number, Padding, Value, bytes_for, cleared}

-- a variable datum: an identifier, the number of bits of its value, and the bytes of the value
pub record Datum : Type 0 where
  pub id : ℕ
  pub bits : ℕ
  pub bytes : List ℕ

-- There are as many bytes as the bits need, and the unused bits are zero.
pub record IsDatum (d : Datum) : Type 0 where
  pub size : length d.bytes ≡ bytes_for d.bits
  pub unused : cleared d.bits d.bytes ≡ d.bytes

-- two datums are equal, field by field
abbrev pub same_datum : Datum → Datum → Bool
same_datum d e = (d.id == e.id) && ((d.bits == e.bits) && pointwise ◌==◌ d.bytes e.bytes)

-- size in bytes of a variable datum record: identifier, number of bits, and the value padded to a multiple of 64 bits
abbrev pub padded : ℕ → ℕ
padded bits = 8 + 8 * ((bits + 63) / 64)

-- identifier, value
abbrev pub fixed_layout : FixedDatum → List Field
fixed_layout d = Number w32 d.id ∷ Number w32 d.value ∷ []

-- identifier, number of bits, value, padding to a multiple of 64 bits
abbrev pub variable_layout : Datum → List Field
variable_layout d = Number w32 d.id ∷ Number w32 d.bits ∷ Value d.bits d.bytes ∷ Padding (padded d.bits - 8 - bytes_for d.bits) ∷ []

-- the layouts of records one after the other
abbrev pub fixed_layouts : List FixedDatum → List Field
fixed_layouts [] = []
fixed_layouts (d ∷ ds) = fixed_layout d ++ fixed_layouts ds

abbrev pub variable_layouts : List Datum → List Field
variable_layouts [] = []
variable_layouts (d ∷ ds) = variable_layout d ++ variable_layouts ds

-- identifiers one after the other
abbrev pub id_layouts : List ℕ → List Field
id_layouts [] = []
id_layouts (id ∷ ids) = Number w32 id ∷ id_layouts ids

-- the datum with its unused bits zero
abbrev pub canonical : Datum → Datum
canonical d = record { id = d.id; bits = d.bits; bytes = cleared d.bits d.bytes }
