-- The table of the orders: by identifier, in order of making.
use Rattle.std.specs.Prelude.{◌≡◌, ℕ, zero, suc, List, [], ◌∷◌}
use Rattle.std.specs.declared.hash.FoldHasher.{FoldHasher}
use Rattle.std.specs.declared.hash.BuildHasherDefault.{BuildHasherDefault}
use Rattle.indexmap.specs.IndexMap.{IndexMap, keys, index_map_len}
use Rattle.siman_manager.specs.declared.kept.MadeOrder.{MadeOrder}

abbrev pub Table : Type 0
Table = IndexMap ℕ MadeOrder (BuildHasherDefault FoldHasher)

-- so many numbers from the first on
abbrev pub numbers_from : ℕ → ℕ → List ℕ
numbers_from first zero = []
numbers_from first (suc n) = first ∷ numbers_from (suc first) n

-- the identifiers are those from the first on
abbrev pub IsNumbered : ℕ → Table → Type 0
IsNumbered first table = keys table ≡ numbers_from first (index_map_len table)
