-- Datum records in a datagram, given their offset and number.
use Rattle.std.specs.Prelude.{ℕ, zero, suc, ◌+◌, List, [], ◌∷◌, take, drop}
use Rattle.std.specs.Int.{w32}
use Rattle.dis_records.specs.declared.datum.FixedDatum.{FixedDatum}
use Rattle.dis_records.specs.declared.datum.VariableView.{VariableView}
use Rattle.dis_records.specs.Layout.{spelled_number, bytes_for}
use Rattle.dis_records.specs.Datum.{Datum, padded}

-- fixed records of eight bytes each
unfoldable pub fixed_at : ℕ → ℕ → List ℕ → List FixedDatum
fixed_at zero at b = []
fixed_at (suc n) at b = record { id = spelled_number w32 at b; value = spelled_number w32 (at + 4) b } ∷ fixed_at n (at + 8) b

-- sizes of the variable records, each by its own number of bits
unfoldable pub variable_sizes : ℕ → ℕ → List ℕ → List ℕ
variable_sizes zero at b = []
variable_sizes (suc n) at b = padded (spelled_number w32 (at + 4) b) ∷ variable_sizes n (at + padded (spelled_number w32 (at + 4) b)) b

-- identifiers of four bytes each
unfoldable pub ids_at : ℕ → ℕ → List ℕ → List ℕ
ids_at zero at b = []
ids_at (suc n) at b = spelled_number w32 at b ∷ ids_at n (at + 4) b

-- the variable records, with their bytes unchanged
unfoldable pub variable_at : ℕ → ℕ → List ℕ → List Datum
variable_at zero at b = []
variable_at (suc n) at b =
    record { id = spelled_number w32 at b; bits = spelled_number w32 (at + 4) b; bytes = take (bytes_for (spelled_number w32 (at + 4) b)) (drop (at + 8) b) }
    ∷ variable_at n (at + padded (spelled_number w32 (at + 4) b)) b

-- value of a view
abbrev pub shown : VariableView → Datum
shown v = record { id = v.id; bits = v.bits; bytes = v.bytes.now }
