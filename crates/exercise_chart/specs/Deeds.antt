-- The first send, or the first receipt, of each datagram at each station (profile).
use Rattle.std.specs.Prelude.{◌≡◌, ℕ, List, ◌∷◌, length, Bool, true, false, ◌&&◌, ◌==◌, bytes_eq, Option}
use Rattle.std.specs.Option.{option_map_or}
use Rattle.std.specs.Hash.{HashWrites, u16}
use Rattle.std.specs.Cmp.Lexicographic.{bytes_decides}
use Rattle.std.proofs.Common.{ap, ◌∙◌}
use Rattle.std.proofs.lemmas.Bool.{and_parts, eqb-true}
use Rattle.std.specs.declared.hash.BuildHasherDefault.{BuildHasherDefault}
use Rattle.std.specs.declared.hash.DefaultHasher.{DefaultHasher}
use Rattle.indexmap.specs.IndexMap.{IndexMap, get}
use Rattle.exercise_model.specs.Recording.{PlainRecording}
use Rattle.exercise_model.specs.Place.{first_below}
use Rattle.exercise_review.specs.Entries.{bytes_sent, bytes_received}
use Rattle.exercise_chart.specs.declared.deeds.StationDatagram.{StationDatagram}

-- entry i has these bytes at station s, where `by` maps a station and an entry to bytes sent, or
-- received
unfoldable pub has_bytes : (ℕ → ℕ → Option (List ℕ)) → ℕ → List ℕ → ℕ → Bool
has_bytes by s b i = option_map_or (bytes_eq b) (by s i) false

-- THE FIRST ENTRY AT WHICH STATION s SENDS THESE BYTES
abbrev pub first_sent : PlainRecording → ℕ → List ℕ → Option ℕ
first_sent r s b = first_below (has_bytes (bytes_sent r) s b) (length r.entries)

-- THE FIRST ENTRY AT WHICH STATION s RECEIVES THESE BYTES
abbrev pub first_received : PlainRecording → ℕ → List ℕ → Option ℕ
first_received r s b = first_below (has_bytes (bytes_received r) s b) (length r.entries)

-- ---- the index of first entries

-- equality of keys: equal station, and equal bytes
abbrev pub same_deed : StationDatagram → StationDatagram → Bool
same_deed x y = (x.station == y.station) && bytes_eq x.bytes.now y.bytes.now

-- the input of the hasher
abbrev pub deed_fed : StationDatagram → HashWrites
deed_fed x = x.bytes.now ∷ u16 x.station

-- equal keys give the hasher equal input
pub deeds_alike : (x y : StationDatagram) → same_deed x y ≡ true → deed_fed x ≡ deed_fed y
deeds_alike x y same =
    let parts = and_parts (x.station == y.station) _ same in
    ap (λ (b : List ℕ). b ∷ u16 x.station) ((bytes_decides x.bytes.now y.bytes.now).0 parts.1)
    ∙ ap (λ (s : ℕ). y.bytes.now ∷ u16 s) (eqb-true x.station y.station parts.0)

-- the entry that is in the index, else this one
abbrev pub first_kept : ℕ → Option ℕ → ℕ
first_kept entry kept = option_map_or (λ (first : ℕ). first) kept entry

abbrev pub Firsts : Type 0
Firsts = IndexMap StationDatagram ℕ (BuildHasherDefault DefaultHasher)

-- THE INVARIANT: each key maps to the first of the entries below n that has these bytes at this
-- station
abbrev pub AreFirsts : (ℕ → ℕ → Option (List ℕ)) → ℕ → Firsts → Type 0
AreFirsts by n firsts = (k : StationDatagram) → get same_deed firsts k ≡ first_below (has_bytes by k.station k.bytes.now) n
