-- The language of layouts: fields one after the other, numbers big-endian.
use Rattle.std.specs.Prelude.{◌≡◌, ℕ, Bool, true, false, ◌+◌, ◌-◌, ◌*◌, ◌/◌, ◌%◌, ◌^◌, ◌==◌, List, [], ◌∷◌, ◌++◌, length, take, drop, replicate, nat_le, if◌then◌else◌}
use Rattle.std.specs.Int.{Width, w8, byte_len, from_be_bytes, to_be_bytes}

-- A field: a byte, a number of a width, bytes of any value, or the first bits of a value in whole bytes. ByteIf is a
-- byte if its test holds, and else one of any value.
pub data Field : Type 0 where
  Byte : ℕ → Field
  ByteIf : Bool → ℕ → Field
  Number : Width → ℕ → Field
  Padding : ℕ → Field
  Value : ℕ → List ℕ → Field

-- number of bytes for this number of bits
abbrev pub bytes_for : ℕ → ℕ
bytes_for bits = (bits + 7) / 8

-- the byte with only its first `bits` bits, the others zero
abbrev pub first_bits : ℕ → ℕ → ℕ
first_bits bits byte = if nat_le 8 bits then byte else (byte / 2 ^ (8 - bits)) * 2 ^ (8 - bits)

-- the bytes with only their first `bits` bits, the others zero
abbrev pub cleared : ℕ → List ℕ → List ℕ
cleared bits [] = []
cleared bits (byte ∷ bytes) = first_bits bits byte ∷ cleared (bits - 8) bytes

-- the last byte of a value of `bits` bits, its unused low bits zero
abbrev pub last_cleared : ℕ → ℕ → ℕ
last_cleared bits byte = if bits % 8 == 0 then byte else (byte / 2 ^ (8 - bits % 8)) * 2 ^ (8 - bits % 8)

-- the number in the bytes of a width at an offset
unfoldable pub spelled_number : Width → ℕ → List ℕ → ℕ
spelled_number w at b = from_be_bytes w (take (byte_len w) (drop at b))

-- the value of `bits` bits at an offset, its unused low bits zero
unfoldable pub value_at : ℕ → ℕ → List ℕ → List ℕ
value_at bits at b = cleared bits (take (bytes_for bits) (drop at b))

abbrev pub field_size : Field → ℕ
field_size (Byte n) = 1
field_size (ByteIf there n) = 1
field_size (Number w n) = byte_len w
field_size (Padding n) = n
field_size (Value bits bytes) = bytes_for bits

-- The field is in b at the offset.
abbrev pub IsPlacedAt : Field → ℕ → List ℕ → Type 0
IsPlacedAt (Byte n) at b = n ≡ spelled_number w8 at b
IsPlacedAt (ByteIf true n) at b = n ≡ spelled_number w8 at b
IsPlacedAt (ByteIf false n) at b = Unit {0}
IsPlacedAt (Number w n) at b = n ≡ spelled_number w at b
IsPlacedAt (Padding n) at b = Unit {0}
IsPlacedAt (Value bits bytes) at b = bytes ≡ value_at bits at b

-- The fields are in b one after the other, from the offset on.
abbrev pub ArePlacedAt : List Field → ℕ → List ℕ → Type 0
ArePlacedAt [] at b = Unit {0}
ArePlacedAt (f ∷ fs) at b = IsPlacedAt f at b × ArePlacedAt fs (at + field_size f) b

-- the sum of sizes
abbrev pub total : List ℕ → ℕ
total [] = 0
total (n ∷ ns) = n + total ns

-- the size of all fields together
abbrev pub size : List Field → ℕ
size [] = 0
size (f ∷ fs) = field_size f + size fs

-- b consists of the fields, one after the other, and nothing else.
pub record Spell (fs : List Field) (b : List ℕ) : Type 0 where
  pub stand : ArePlacedAt fs 0 b
  pub whole : length b ≡ size fs

-- the spelling of a field with zero padding
abbrev pub field_text : Field → List ℕ
field_text (Byte n) = n ∷ []
field_text (ByteIf there n) = (if there then n else 0) ∷ []
field_text (Number w n) = to_be_bytes w n
field_text (Padding n) = replicate n 0
field_text (Value bits bytes) = bytes

-- the spelling of fields with zero padding
abbrev pub text : List Field → List ℕ
text [] = []
text (f ∷ fs) = field_text f ++ text fs

-- The text of the field has its size, and reads as the field.
abbrev pub FieldFits : Field → Type 0
FieldFits (Byte n) = Unit {0}
FieldFits (ByteIf there n) = Unit {0}
FieldFits (Number w n) = (length (to_be_bytes w n) ≡ byte_len w) × (from_be_bytes w (to_be_bytes w n) ≡ n)
FieldFits (Padding n) = Unit {0}
FieldFits (Value bits bytes) = (length bytes ≡ bytes_for bits) × (cleared bits bytes ≡ bytes)

abbrev pub Fit : List Field → Type 0
Fit [] = Unit {0}
Fit (f ∷ fs) = FieldFits f × Fit fs
