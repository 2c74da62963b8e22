-- A table of the fields of a format: width and fault of each.
use Rattle.std.specs.Prelude.{ℕ, ◌+◌, List, length, take, Bool, nat_lt, Option, Some, None, if◌then◌else◌}
use Rattle.std.specs.Int.{Width, byte_len, from_be_bytes}
use Rattle.byte_files.specs.Fields.{Names}

-- a row of the table: number of bytes of the field, and its fault, given its offset and the bytes from there on, if
-- it has one
pub record Row (F : Type 0) : Type 0 where
  pub width : ℕ
  pub fault : (at : ℕ) (left : List ℕ) → Option F

-- the fault, if a test does not pass
abbrev pub unless : {F : Type 0} → Bool → F → Option F
unless test fault = if test then None else Some fault

-- n bytes of any value
abbrev pub any : {F : Type 0} → ℕ → Row F
any n = record { width = n; fault = λ at left. None }

-- a number of a width, with the fault of its value
abbrev pub number : {F : Type 0} → Width → ((at value : ℕ) → Option F) → Row F
number w fault = record { width = byte_len w; fault = λ at left. fault at (from_be_bytes w (take (byte_len w) left)) }

-- a number of a width that must pass a test
abbrev pub number_in : {F : Type 0} → Width → (ℕ → Bool) → (ℕ → F) → Row F
number_in w test fault = number w (λ at n. unless (test n) (fault at))

-- the fault of a field at an offset, given the bytes left there: it would end past the limit; or else it is
-- incomplete; or else its value is bad
abbrev pub fault_at : {F : Type 0} → Names F → (limit : ℕ) → Row F → (at : ℕ) → List ℕ → Option F
fault_at names limit row at left =
    if nat_lt limit (at + row.width) then Some (names.over_limit at)
    else (if nat_lt (length left) row.width then Some (names.truncated (at + length left)) else row.fault at left)
