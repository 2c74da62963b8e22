-- A recording with the sends that its logs lack, each at its place, and whether these are enough (profile).
use Rattle.std.specs.Prelude.{◌≡◌, ◌⊎◌, ◌<◌, ℕ, zero, suc, List, ◌∷◌, ◌++◌, [], length, map, filter, Bool, true, false, ◌==◌, nat_lt, Option, Some, None, IfSome, is_none, slice_get, slice_index_or}
use Rattle.std.specs.Option.{option_map_or}
use Rattle.std.specs.List.{list_any}
use Rattle.std.specs.Global.{Vec}
use Rattle.std.specs.declared.hash.BuildHasherDefault.{BuildHasherDefault}
use Rattle.std.specs.declared.hash.FoldHasher.{FoldHasher}
use Rattle.indexmap.specs.IndexMap.{IndexMap, get}
use Rattle.dis_records.specs.declared.entity_state.EntityState.TheVariants.{Absent}
use Rattle.exercise_model.specs.declared.recording.TheConstants.{MOST_ENTRIES}
use Rattle.exercise_model.specs.Entry.{Entry, Sent, Received, Told}
use Rattle.exercise_model.specs.Recording.{PlainRecording, IsRecording}
use Rattle.exercise_model.specs.History.{History}
use Rattle.exercise_model.specs.Meaning.{meaning}
use Rattle.exercise_model.specs.Change.{able, responds}
use Rattle.exercise_model.specs.Run.{Explains}
use Rattle.exercise_conflict.specs.declared.lacks.MissingSend.{MissingSend}
use Rattle.exercise_conflict.specs.declared.repaired.RepairedEntry.{RepairedEntry}
use Rattle.exercise_conflict.specs.declared.repair.Enough.{Enough}
use Rattle.exercise_conflict.specs.declared.repair.Enough.TheVariants as words
use Rattle.exercise_conflict.specs.declared.repair.Repair.{Repair}
use Rattle.exercise_conflict.specs.Lacks.{missing_sends}

-- ---- the repaired recording

-- the datagram of an entry; empty for a told state
abbrev pub bytes_of : Entry → List ℕ
bytes_of (Sent s stamp b) = b
bytes_of (Received s stamp b) = b
bytes_of (Told s e y) = []

-- an entry unchanged, or the send of its datagram by a station, with clock stamp 0
abbrev pub entry_or_send : Entry → Option ℕ → Entry
entry_or_send e None = e
entry_or_send e (Some t) = Sent t 0 (bytes_of e)

abbrev pub no_entry : Entry
no_entry = Told 0 0 Absent

-- the entry of a slot, given the entries of a recording
abbrev pub slot_entry : PlainRecording → RepairedEntry → Entry
slot_entry r slot = entry_or_send (slice_index_or r.entries slot.entry no_entry) slot.sender

-- the slot of an original entry
abbrev pub kept : ℕ → RepairedEntry
kept i = record { entry = i; sender = None }

-- the slot of a missing send
abbrev pub made : MissingSend → RepairedEntry
made lack = record { entry = lack.entry; sender = Some lack.missing.sender }

-- it belongs at the start of its log; it belongs right after entry p
abbrev pub is_first : MissingSend → Bool
is_first lack = is_none lack.missing.after

abbrev pub is_after : ℕ → MissingSend → Bool
is_after p lack = option_map_or (λ k. k == p) lack.missing.after false

-- the slots of the entries below n, each followed by the sends that belong right after it, and all preceded by those that belong at the start
unfoldable pub slots_below : List MissingSend → ℕ → List RepairedEntry
slots_below lacks zero = map made (filter is_first lacks)
slots_below lacks (suc n) = slots_below lacks n ++ kept n ∷ map made (filter (is_after n) lacks)

-- THE REPAIRED RECORDING: with the sends that its logs lack, each at its place; several at one place are in the order of the entries that reveal them
unfoldable pub repaired : PlainRecording → PlainRecording
repaired r = record { setting = r.setting; entries = map (slot_entry r) (slots_below (missing_sends r) (length r.entries)) }

-- the repaired recording would have too many entries
unfoldable pub is_too_long : PlainRecording → Bool
is_too_long r = nat_lt MOST_ENTRIES (length (slots_below (missing_sends r) (length r.entries)))

-- ---- representation

-- P holds of each element of a list
abbrev pub Every : {X : Type 0} → (X → Type 0) → List X → Type 0
Every P [] = Unit {0}
Every P (x ∷ xs) = P x × Every P xs

-- a slot has an existing entry and, for a send, an existing station
pub record IsSlot (r : PlainRecording) (slot : RepairedEntry) : Type 0 where
  pub entry : slot.entry < length r.entries
  pub sender : IfSome slot.sender (λ t. t < length r.setting.stations)

-- the recording of some slots, given the original
abbrev pub slots_recording : PlainRecording → List RepairedEntry → PlainRecording
slots_recording r slots = record { setting = r.setting; entries = map (slot_entry r) slots }

pub record AreSlots (r : PlainRecording) (slots : List RepairedEntry) : Type 0 where
  pub each : Every (IsSlot r) slots
  pub limits : IsRecording (slots_recording r slots)

-- the table of the sends that belong after each entry
abbrev pub Places : Type 0
Places = IndexMap ℕ (Vec RepairedEntry) (BuildHasherDefault FoldHasher)

-- THE SENDS that belong right after entry p
unfoldable pub slots_after : Places → ℕ → List RepairedEntry
slots_after places p = option_map_or (λ (slots : Vec RepairedEntry). slots.items) (get ◌==◌ places p) []

-- ---- whether it is enough

-- the datagram of an entry is an Able Acknowledge
abbrev pub is_able : ℕ → Entry → Bool
is_able x (Sent s stamp b) = option_map_or (responds able) (meaning x b) false
is_able x (Received s stamp b) = option_map_or (responds able) (meaning x b) false
is_able x (Told s e y) = false

abbrev pub is_able_at : PlainRecording → ℕ → Bool
is_able_at r i = option_map_or (is_able r.setting.exercise) (slice_get r.entries i) false

-- one of the sends that the logs lack is an Able
unfoldable pub is_able_missing : PlainRecording → Bool
is_able_missing r = list_any (λ (lack : MissingSend). is_able_at r lack.entry) (missing_sends r)

abbrev pub IsUnexplained : PlainRecording → Type 0
IsUnexplained r = (h : History) → Explains r h → ⊥

-- WHETHER THE SENDS ARE ENOUGH: yes if some run explains the repaired recording; else unknown if one of them is an Able, or if the repaired
-- recording would have too many entries; else no
abbrev pub IsEnough : PlainRecording → Enough → Type 0
IsEnough r words.Yes = (is_too_long r ≡ false) × ((h : History) × Explains (repaired r) h)
IsEnough r words.No = (is_too_long r ≡ false) × (is_able_missing r ≡ false) × IsUnexplained (repaired r)
IsEnough r words.Unknown = (is_too_long r ≡ true) ⊎ ((is_too_long r ≡ false) × (is_able_missing r ≡ true) × IsUnexplained (repaired r))

-- A REPAIR: the number of missing sends, and whether they are enough
pub record IsRepairOf (r : PlainRecording) (repair : Repair) : Type 0 where
  pub sends : repair.sends ≡ length (missing_sends r)
  pub enough : IsEnough r repair.enough
