-- Texts of numbered things, one after the other (profile).
use Rattle.std.specs.Prelude.{ℕ, zero, suc, List, [], ◌++◌}

-- the texts of a function for 0, 1 and so on below n, one after the other
unfoldable pub texts_below : (ℕ → List ℕ) → ℕ → List ℕ
texts_below text zero = []
texts_below text (suc n) = texts_below text n ++ text n
