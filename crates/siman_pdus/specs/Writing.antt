-- Fields that are appended to a vector with enough room.
use Rattle.std.specs.Prelude.{◌≡◌, ℕ, ◌+◌, ◌≤◌, List, ◌++◌, Vec, vec_len, vec_capacity}
use Rattle.std.specs.declared.alloc.Global.{Global}
use Rattle.dis_records.specs.Layout.{Field, Fit, size, text}

-- The spare capacity holds the fields.
abbrev pub HasRoom : Vec ℕ Global → ℕ → Type 0
HasRoom v n = vec_len v + n ≤ vec_capacity v

-- The text of the fields is appended, and it reads as these fields.
pub record Puts (fields : List Field) (old new : Vec ℕ Global) : Type 0 where
  pub items : new.items ≡ old.items ++ text fields
  pub len : vec_len new ≡ vec_len old + size fields
  pub capacity : vec_capacity old ≤ vec_capacity new
  pub fits : Fit fields
