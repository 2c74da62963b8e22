-- Faults of creating a variable datum.
use Rattle.std.specs.Prelude.{◌≡◌, ◌≢◌, ℕ, List, length}
use Rattle.dis_records.specs.declared.datum.DatumFault.{DatumFault}
use Rattle.dis_records.specs.declared.datum.DatumFault.TheVariants.{WrongSize, UnusedBits}
use Rattle.dis_records.specs.Layout.{bytes_for, cleared}

-- The fault is the first that holds of the bytes, and returns them.
abbrev pub RefusesBytes : ℕ → List ℕ → DatumFault → Type 0
RefusesBytes bits bytes (WrongSize back) = (length bytes ≢ bytes_for bits) × (back.items ≡ bytes)
RefusesBytes bits bytes (UnusedBits back) = (length bytes ≡ bytes_for bits) × (cleared bits bytes ≢ bytes) × (back.items ≡ bytes)
