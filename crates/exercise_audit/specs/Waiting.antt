-- Stations that wait for entries to be taken (profile).
use Rattle.std.specs.Prelude.{◌≡◌, ℕ, List, [], ◌∷◌, ◌++◌, ◌==◌, nat_eq, if◌then◌else◌}
use Rattle.std.specs.Option.{option_map_or}
use Rattle.std.specs.Global.{Vec}
use Rattle.std.specs.declared.hash.BuildHasherDefault.{BuildHasherDefault}
use Rattle.std.specs.declared.hash.FoldHasher.{FoldHasher}
use Rattle.indexmap.specs.IndexMap.{IndexMap, get}

-- the table of waiting stations, by entry
abbrev pub Waiting : Type 0
Waiting = IndexMap ℕ (Vec ℕ) (BuildHasherDefault FoldHasher)

-- THE STATIONS THAT WAIT for an entry, in the order in which they were added
unfoldable pub waiting_for : Waiting → ℕ → List ℕ
waiting_for w i = option_map_or (λ stations. stations.items) (get nat_eq w i) []

-- no station waits
abbrev pub NoneWaits : Waiting → Type 0
NoneWaits w = (i : ℕ) → waiting_for w i ≡ []

-- the station is added to those that wait for this entry; those of other entries are unchanged
abbrev pub Joins : Waiting → Waiting → ℕ → ℕ → Type 0
Joins old new entry station = (i : ℕ) → waiting_for new i ≡ waiting_for old i ++ (if entry == i then station ∷ [] else [])

-- no station waits for this entry any more; those of other entries are unchanged
abbrev pub Leaves : Waiting → Waiting → ℕ → Type 0
Leaves old new entry = (i : ℕ) → waiting_for new i ≡ (if entry == i then [] else waiting_for old i)

-- the waiting stations of each entry are unchanged
abbrev pub WaitsOn : Waiting → Waiting → Type 0
WaitsOn old new = (i : ℕ) → waiting_for new i ≡ waiting_for old i
