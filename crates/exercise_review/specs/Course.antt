-- The changes of a station, and the next change of an entity among them (profile).
use Rattle.std.specs.Prelude.{◌≡◌, ℕ, ◌+◌, ◌<◌, ◌≤◌, List, [], ◌++◌, length, Bool, true, false, ◌==◌, ◌&&◌, not, None, IfSome, slice_get, slice_index_or, Vec}
use Rattle.std.specs.List.{list_any}
use Rattle.std.specs.declared.alloc.Global.{Global}
use Rattle.dis_records.specs.declared.kind.Kind.TheVariants as kinds
use Rattle.dis_records.specs.declared.entity.Scope.{Scope}
use Rattle.dis_records.specs.declared.entity.Scope.TheVariants.{One, All}
use Rattle.dis_records.specs.declared.entity_state.EntityState.{EntityState}
use Rattle.dis_records.specs.declared.entity_state.EntityState.TheVariants.{Absent, Stopped, Running}
use Rattle.exercise_model.specs.declared.state.Change.{Change}
use Rattle.exercise_model.specs.Station.{listed_state}
use Rattle.exercise_model.specs.Recording.{PlainRecording}
use Rattle.exercise_model.specs.History.{station_at}
use Rattle.exercise_model.specs.State.{state_made, changed}
use Rattle.exercise_model.specs.Cause.{same_state}
use Rattle.exercise_review.specs.declared.life.Stretch.{Stretch}
use Rattle.exercise_review.specs.declared.changes.Made.{Made}
use Rattle.exercise_review.specs.declared.course.OwnChanges.{OwnChanges}
use Rattle.exercise_review.specs.declared.course.StationChanges.{StationChanges}
use Rattle.exercise_review.specs.Life.{LifeSoFar, stretch_of}
use Rattle.exercise_review.specs.Room.{lists_below}
use Rattle.exercise_review.specs.Span.{made_at, changes_made, life_by_changes}

-- THE CHANGES OF ALL STATIONS in the entries below n, in order for each station
pub record AreChanges (r : PlainRecording) (n : ℕ) (all : List (Vec Made Global)) : Type 0 where
  pub count : length all ≡ length r.setting.stations
  pub each : (s : ℕ) → IfSome (slice_get all s) (λ ms. ms.items ≡ lists_below (made_at r s) n)

-- the value read past the end of a list of changes
abbrev pub no_made : Made
no_made = record { entry = 0; change = record { kind = kinds.CreateEntity; scope = One 0 } }

-- the change at a place
abbrev pub change_in : List Made → ℕ → Change
change_in ms k = (slice_index_or ms k no_made).change

-- a scope is entity e alone, or all entities
abbrev pub is_one : ℕ → Scope → Bool
is_one e (One n) = n == e
is_one e All = false

abbrev pub is_all : Scope → Bool
is_all (One n) = false
is_all All = true

-- a change is one of entity e alone
abbrev pub is_of : ℕ → Change → Bool
is_of e c = is_one e c.scope

-- it is one of all entities, and changes the state y
abbrev pub is_change_of_all_in : EntityState → Change → Bool
is_change_of_all_in y c = is_all c.scope && not (same_state (state_made c.kind y) y)

-- a change is one of all entities; some change in a list is
abbrev pub is_made_of_all : Made → Bool
is_made_of_all m = is_all m.change.scope

abbrev pub has_change_of_all : Vec Made Global → Bool
has_change_of_all ms = list_any is_made_of_all ms.items

-- b is the place of the first change from place a on that passes, or the end of the list if none does
pub record IsNextIn (test : Change → Bool) (ms : List Made) (a b : ℕ) : Type 0 where
  pub from : a ≤ b
  pub within : b ≤ length ms
  pub none : (i : ℕ) → a ≤ i → i < b → test (change_in ms i) ≡ false
  pub passes : b < length ms → test (change_in ms b) ≡ true

-- THE NEXT THAT PASSES, from each place on that is not before place a; the end for a place without an entry in the list
abbrev pub AreNextIn : (Change → Bool) → List Made → (a : ℕ) → (places : List ℕ) → Type 0
AreNextIn test ms a places = (k : ℕ) → a ≤ k → k ≤ length ms → IsNextIn test ms k (slice_index_or places k (length ms))

-- no change is one of an entity alone whose number is greater than `last`
abbrev pub AreUpTo : (last : ℕ) → List Made → Type 0
AreUpTo last ms = (e i : ℕ) → last < e → i < length ms → is_of e (change_in ms i) ≡ false

-- THE OWN CHANGES OF EACH ENTITY up to the last number: the first from place a on, and after each of them the next
pub record AreOwn (ms : List Made) (last a : ℕ) (o : OwnChanges) : Type 0 where
  pub numbers : length o.first.items ≡ last + 1
  pub count : length o.next.items ≡ length ms
  pub first : (e : ℕ) → IsNextIn (is_of e) ms a (slice_index_or o.first.items e (length ms))
  pub next : (k : ℕ) → a ≤ k → k < length ms → (e : ℕ) → is_of e (change_in ms k) ≡ true → IsNextIn (is_of e) ms (k + 1) (slice_index_or o.next.items k 0)

-- A COURSE agrees with its changes: the next change of each entity, among its own and among those of all
pub record AreInOrder (c : StationChanges) : Type 0 where
  pub starts : length c.starts.items ≡ c.last + 1
  pub numbers : AreUpTo c.last c.changes.now
  pub own : AreOwn c.changes.now c.last 0 c.own
  pub absent : AreNextIn (is_change_of_all_in Absent) c.changes.now 0 c.absent.items
  pub stopped : AreNextIn (is_change_of_all_in Stopped) c.changes.now 0 c.stopped.items
  pub running : AreNextIn (is_change_of_all_in Running) c.changes.now 0 c.running.items

-- THE COURSE OF STATION s: its changes, and its opening states
pub record IsCourse (r : PlainRecording) (s : ℕ) (c : StationChanges) : Type 0 where
  pub order : AreInOrder c
  pub changes : c.changes.now ≡ changes_made r s
  pub starts : (e : ℕ) → slice_index_or c.starts.items e Absent ≡ listed_state (station_at r s).opening e

-- from place a up to place b no change affects entity e, which is in state y
abbrev pub IsUnaffected : ℕ → EntityState → List Made → ℕ → ℕ → Type 0
IsUnaffected e y ms a b = (i : ℕ) → a ≤ i → i < b → changed e y (change_in ms i) ≡ y

-- from place a up to place b, which is not past the next own change of entity e, it is in state y
pub record IsStayEnd (e : ℕ) (y : EntityState) (ms : List Made) (own a b : ℕ) : Type 0 where
  pub from : a ≤ b
  pub to : b ≤ own
  pub still : IsUnaffected e y ms a b

-- the life of entity e before the first change
abbrev pub start_in : StationChanges → ℕ → LifeSoFar
start_in c e = record { ended = []; state = slice_index_or c.starts.items e Absent; since = None }

-- the life of entity e by the changes of a course, so far and whole
abbrev pub course_life : StationChanges → ℕ → LifeSoFar
course_life c e = life_by_changes e (start_in c e) c.changes.now

abbrev pub course_stretches : StationChanges → ℕ → List Stretch
course_stretches c e = let l = course_life c e in l.ended ++ stretch_of l None
