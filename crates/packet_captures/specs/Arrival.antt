-- Parts of one datagram, in whatever order they arrive.
use Rattle.std.specs.Prelude.{◌≡◌, ℕ, Bool, true, false, List, [], ◌∷◌, length, slice_get, slice_set, Some}
use Rattle.packet_captures.specs.Pending.{PlainPart, end_of, has_wrong_length}

-- These are the parts of a datagram between two places: one behind the other, each but the last of them not empty and
-- a multiple of eight bytes long.
abbrev pub ArePartsOf : ℕ → ℕ → List PlainPart → Type 0
ArePartsOf at end [] = ⊥
ArePartsOf at end (p ∷ []) = (p.offset ≡ at) × (end_of p ≡ end)
ArePartsOf at end (p ∷ q ∷ ps) = (p.offset ≡ at) × (has_wrong_length (length p.bytes) true ≡ false) × ArePartsOf (end_of p) end (q ∷ ps)

-- All parts have come.
abbrev pub HaveCome : List Bool → Type 0
HaveCome [] = Unit {0}
HaveCome (came ∷ others) = (came ≡ true) × HaveCome others

-- Each part comes once and all come, where the flags say which have come already, and the list says, by their indices,
-- in which order the others come.
abbrev pub IsArrival : List Bool → List ℕ → Type 0
IsArrival came [] = HaveCome came
IsArrival came (k ∷ ks) = (slice_get came k ≡ Some false) × IsArrival (slice_set came k true) ks
