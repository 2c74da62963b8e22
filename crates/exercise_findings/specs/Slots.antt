-- A hash table of entries with linear probing: an entry is in the first slot that was free, searching from the home slot of its hash (profile).
use Rattle.std.specs.Prelude.{◌≡◌, ◌≢◌, ◌<◌, ◌+◌, ◌-◌, ◌==◌, ◌⊎◌, ◌/◌, ℕ, zero, suc, Bool, true, List, length, Some, slice_get, if◌then◌else◌, bit_and}
use Rattle.exercise_model.specs.Place.{first_below}
use Rattle.exercise_findings.specs.declared.slots.Slot.{Slot}
use Rattle.exercise_findings.specs.declared.tagged.Look.{Look}
use Rattle.exercise_findings.specs.declared.tagged.Look.TheVariants.{Free, Other, Under}

-- among n slots, the home slot of a hash, and the slot after slot i
abbrev pub home : ℕ → ℕ → ℕ
home n hash = bit_and hash (n - 1)

abbrev pub slot_behind : ℕ → ℕ → ℕ
slot_behind n i = if (i + 1) == n then 0 else i + 1

-- the slot d places after the home slot of a hash
unfoldable pub slot_on : ℕ → ℕ → ℕ → ℕ
slot_on n hash zero = home n hash
slot_on n hash (suc d) = slot_behind n (slot_on n hash d)

-- Slot i has this entry, with this hash.
pub record HasEntry (slots : List Slot) (i hash entry : ℕ) : Type 0 where
  pub at : slice_get slots i ≡ Some (record { hash = hash; entry = entry })
  pub some : entry ≢ 0xFFFFFFFF

-- the first d slots from the home slot of a hash are occupied
abbrev pub AreTaken : List Slot → ℕ → ℕ → Type 0
AreTaken slots hash d = (c : ℕ) → c < d → (h : ℕ) × (e : ℕ) × HasEntry slots (slot_on (length slots) hash c) h e

-- Slot i is the first free one from the home slot of a hash.
pub record IsFirstFree (slots : List Slot) (hash i : ℕ) : Type 0 where
  pub steps : ℕ
  pub near : steps < length slots
  pub at : i ≡ slot_on (length slots) hash steps
  pub within : i < length slots
  pub free : (h e : ℕ) → slice_get slots i ≡ Some (record { hash = h; entry = e }) → e ≡ 0xFFFFFFFF
  pub taken : AreTaken slots hash steps

-- An entry is found under a hash: all slots from the home slot to its own are occupied.
pub record IsReached (slots : List Slot) (hash entry : ℕ) : Type 0 where
  pub steps : ℕ
  pub near : steps < length slots
  pub here : HasEntry slots (slot_on (length slots) hash steps) hash entry
  pub taken : AreTaken slots hash steps

-- some slot has this entry
abbrev pub HasSlot : List Slot → ℕ → Type 0
HasSlot slots entry = (i : ℕ) × (hash : ℕ) × HasEntry slots i hash entry

-- An entry is added under a hash, and all earlier entries remain.
pub record IsPut (hash entry : ℕ) (old new : List Slot) : Type 0 where
  pub reached : IsReached new hash entry
  pub kept : (h e : ℕ) → IsReached old h e → IsReached new h e
  pub only : (e : ℕ) → HasSlot new e → HasSlot old e ⊎ (e ≡ entry)

-- THE TIE: each entry in the slots has a key, is the first below n with that key, and is found under the hash of the key
pub record AreFirst {K : Type 0} (has : K → ℕ → Bool) (hash : K → ℕ) (n : ℕ) (slots : List Slot) : Type 0 where
  pub keyed : (e : ℕ) → HasSlot slots e → (k : K) × (has k e ≡ true)
  pub only : (k : K) (e : ℕ) → HasSlot slots e → has k e ≡ true → first_below (has k) n ≡ Some e
  pub all : (k : K) (e : ℕ) → first_below (has k) n ≡ Some e → IsReached slots (hash k) e

-- a free slot
abbrev pub free_slot : Slot
free_slot = record { hash = 0; entry = 0xFFFFFFFF }

-- the tag of a hash, and that of a slot
abbrev pub tag_of : ℕ → ℕ
tag_of hash = hash / 0x2000000 + 1

abbrev pub tag_in : Slot → ℕ
tag_in s = if s.entry == 0xFFFFFFFF then 0 else tag_of s.hash

-- result of probing a slot for a hash
abbrev pub LooksAt : Slot → ℕ → Look → Type 0
LooksAt s hash Free = s.entry ≡ 0xFFFFFFFF
LooksAt s hash Other = (s.entry ≢ 0xFFFFFFFF) × (s.hash ≢ hash)
LooksAt s hash (Under entry) = (s.entry ≢ 0xFFFFFFFF) × (s.hash ≡ hash) × (s.entry ≡ entry)
