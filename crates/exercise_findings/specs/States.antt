-- The current states of a station's entities: those set singly in pages of 256, the changes of all entities beside them (profile).
use Rattle.std.specs.Prelude.{◌≡◌, ◌≢◌, ◌⊎◌, ℕ, ◌≤◌, ◌/◌, ◌%◌, List, length, Bool, false, nat_lt, Option, Some, None, IfSome, Vec, slice_get, option_and_then, if◌then◌else◌}
use Rattle.std.specs.Option.{option_map_or}
use Rattle.std.specs.declared.alloc.Global.{Global}
use Rattle.dis_records.specs.declared.entity_state.EntityState.{EntityState}
use Rattle.dis_records.specs.declared.entity_state.EntityState.TheVariants.{Absent}
use Rattle.exercise_model.specs.Station.{is_entity, is_absent}
use Rattle.exercise_model.specs.Recording.{PlainRecording}
use Rattle.exercise_model.specs.History.{station_at}
use Rattle.exercise_model.specs.State.{entity_state}
use Rattle.exercise_model.specs.Place.{log_before}
use Rattle.exercise_findings.specs.declared.states.SingleState.{SingleState}
use Rattle.exercise_findings.specs.declared.states.States.{States}

-- the record of entity e, if it was set singly: at place e % 256 of page e / 256
unfoldable pub held_at : List (Vec SingleState Global) → ℕ → Option SingleState
held_at pages e = option_and_then (λ page. slice_get page.items (e % 256)) (slice_get pages (e / 256))

-- The state of an entity with a record of its own, given the later changes of all entities: all were set to one state, or those that were present were.
abbrev pub state_of_held : States → SingleState → EntityState
state_of_held t h = if nat_lt h.since t.alike then t.rest else (if is_absent h.state then Absent else (if nat_lt h.since t.moved then t.moved_to else h.state))

-- the state of an entity with or without a record of its own
abbrev pub state_by : States → Option SingleState → EntityState
state_by t o = option_map_or (state_of_held t) o t.rest

-- THE STATE UNDER NUMBER e in the table
unfoldable pub state_in : States → ℕ → EntityState
state_in t e = state_by t (held_at t.pages.items e)

-- a page has records of its entities
abbrev pub has_page : List (Vec SingleState Global) → ℕ → Bool
has_page pages page = option_map_or (λ p. nat_lt 0 (length p.items)) (slice_get pages page) false

-- the state under number e, Absent if no entity can have that number
abbrev pub state_or_absent : States → ℕ → EntityState
state_or_absent t e = if is_entity e then state_in t e else Absent

-- No record was made by a change with a number above n; the last change of all present entities made them present still.
pub record AreUpTo (n : ℕ) (t : States) : Type 0 where
  pub alike : t.alike ≤ n
  pub moved : t.moved ≤ n
  pub moved_to : is_absent t.moved_to ≡ false
  pub held : (e : ℕ) → IfSome (held_at t.pages.items e) (λ h. h.since ≤ n)

-- the record at a place is unchanged, or it is the filler if there was none
abbrev pub IsKept : SingleState → Option SingleState → Option SingleState → Type 0
IsKept filler before after = (after ≡ before) ⊎ ((before ≡ None) × (after ≡ Some filler))

-- a page after a record was put at a place
pub record IsPut (filler : SingleState) (place : ℕ) (held : SingleState) (old new : List SingleState) : Type 0 where
  pub here : slice_get new place ≡ Some held
  pub others : (i : ℕ) → i ≢ place → IsKept filler (slice_get old i) (slice_get new i)

-- the states of station s after the entries below n; the change of entry j has the number j + 1, and 0 is the opening
pub record AreStatesOf (r : PlainRecording) (n s : ℕ) (t : States) : Type 0 where
  pub up_to : AreUpTo n t
  pub states : (e : ℕ) → state_in t e ≡ entity_state r.setting.exercise (station_at r s) (log_before r s n) e

-- THE TIE: there is one table for each of the first `stations` stations, with their states after the entries below n
pub record AreStatesBelow (r : PlainRecording) (n stations : ℕ) (ts : List States) : Type 0 where
  pub count : length ts ≡ stations
  pub each : (s : ℕ) → IfSome (slice_get ts s) (AreStatesOf r n s)

abbrev pub AreStates : PlainRecording → ℕ → List States → Type 0
AreStates r n ts = AreStatesBelow r n (length r.setting.stations) ts
