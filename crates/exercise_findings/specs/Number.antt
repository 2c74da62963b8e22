-- Entries as 32-bit numbers with one reserved for none, as columns store them.
use Rattle.std.specs.Prelude.{◌≡◌, ℕ, ◌==◌, Option, Some, None, unwrap_or, if◌then◌else◌}

-- the number of an entry, or the reserved one for none
abbrev pub entry_number : Option ℕ → ℕ
entry_number entry = unwrap_or entry 0xFFFFFFFF

-- the entry with a number
abbrev pub entry_of : ℕ → Option ℕ
entry_of number = if number == 0xFFFFFFFF then None else Some number

-- the number encodes the value of f at place j
abbrev pub IsNumberOf : (ℕ → Option ℕ) → ℕ → ℕ → Type 0
IsNumberOf f j number = entry_of number ≡ f j
