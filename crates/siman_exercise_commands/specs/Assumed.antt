-- The entities that a log assumes: those of which it shows that they were there before it began (profile).
use Rattle.std.specs.Prelude.{◌≡◌, ℕ, zero, suc, ◌+◌, ◌<◌, Bool, true, false, ◌&&◌, ◌==◌, List, [], ◌∷◌, ◌++◌, length, slice_index_or, Option, Some, None, if◌then◌else◌}
use Rattle.dis_records.specs.declared.entity.Scope.{Scope}
use Rattle.dis_records.specs.declared.entity.Scope.TheVariants.{One, All}
use Rattle.dis_records.specs.declared.entity_state.EntityState.{EntityState}
use Rattle.dis_records.specs.declared.entity_state.EntityState.TheVariants.{Stopped}
use Rattle.dis_records.specs.declared.kind.Kind.{Kind}
use Rattle.dis_records.specs.declared.kind.Kind.TheVariants as kinds
use Rattle.exercise_model.specs.declared.state.Change.{Change}
use Rattle.exercise_model.specs.declared.station.TheConstants.{LARGEST_ENTITY}
use Rattle.exercise_model.specs.Account.{change_at}
use Rattle.exercise_model.specs.Recording.{PlainRecording}
use Rattle.exercise_model.specs.Station.{is_absent, is_entity, listed_state}
use Rattle.siman_application.specs.Listed.{inserted}
use Rattle.siman_exercise_commands.specs.declared.assumed.Decision.{Decision}
use Rattle.siman_exercise_commands.specs.declared.assumed.Decisions.{Decisions}
use Rattle.siman_exercise_commands.specs.declared.assumed.Decision.TheVariants.{Open, Assumed, Settled}

-- the change is this entity's own
abbrev pub is_own : ℕ → Scope → Bool
is_own e (One n) = n == e
is_own e All = false

-- only an entity that is there can be removed, started or stopped
abbrev pub needs_entity : Kind → Bool
needs_entity kinds.RemoveEntity = true
needs_entity kinds.StartResume = true
needs_entity kinds.StopFreeze = true
needs_entity kind = false

-- all entities are removed
abbrev pub is_remove : Kind → Bool
is_remove kinds.RemoveEntity = true
is_remove kind = false

abbrev pub removes_in : Scope → Kind → Bool
removes_in (One n) kind = false
removes_in All kind = is_remove kind

abbrev pub removes_all : Change → Bool
removes_all c = removes_in c.scope c.kind

-- what a change of an entity's own says of it
abbrev pub own_decision : Kind → Decision
own_decision kind = if needs_entity kind then Assumed else Settled

-- what a change says first of an entity: of its own, that it was there, or that it need not have been; that all were
-- removed settles it, too
abbrev pub decided : ℕ → Change → Decision
decided e c =
    if is_own e c.scope then own_decision c.kind
    else if removes_all c then Settled else Open

-- with what is said of it later, which counts where nothing was said before
abbrev pub then_decided : Decision → Decision → Decision
then_decided Open next = next
then_decided Assumed next = Assumed
then_decided Settled next = Settled

abbrev pub decided_by : ℕ → Option Change → Decision
decided_by e None = Open
decided_by e (Some c) = decided e c

-- WHAT THE FIRST ENTRIES SAY OF AN ENTITY
unfoldable pub decision_below : PlainRecording → ℕ → (entries : ℕ) → Decision
decision_below r e zero = Open
decision_below r e (suc n) = then_decided (decision_below r e n) (decided_by e (change_at r n))

abbrev pub is_decided : Decision → Bool
is_decided Assumed = true
is_decided other = false

-- THE LOG ASSUMES AN ENTITY: the first change of its own removes, starts or stops it, before which all were never
-- removed, and it is not among those with which the station opens
abbrev pub is_assumed : PlainRecording → (opening : List (ℕ × EntityState)) → ℕ → Bool
is_assumed r opening e = is_entity e && (is_decided (decision_below r e (length r.entries)) && is_absent (listed_state opening e))

-- the numbers below n that pass the test, rising
unfoldable pub numbers_below : (test : ℕ → Bool) → ℕ → List ℕ
numbers_below test zero = []
numbers_below test (suc n) = numbers_below test n ++ (if test n then n ∷ [] else [])

-- THE ENTITIES THAT A LOG ASSUMES, by rising numbers
unfoldable pub assumed_in : PlainRecording → (opening : List (ℕ × EntityState)) → List ℕ
assumed_in r opening = numbers_below (is_assumed r opening) (LARGEST_ENTITY + 1)

-- entities with one more, stopped, in its place, if it is none of them
abbrev pub with_stopped : ℕ → List (ℕ × EntityState) → List (ℕ × EntityState)
with_stopped e opening = if is_entity e && is_absent (listed_state opening e) then inserted e Stopped opening else opening

-- THE ENTITIES with which a station opens, and these, stopped
abbrev pub with_all_stopped : List ℕ → List (ℕ × EntityState) → List (ℕ × EntityState)
with_all_stopped [] opening = opening
with_all_stopped (e ∷ es) opening = with_all_stopped es (with_stopped e opening)

-- ---- the decisions of all entities, in a table by their numbers

-- a decision of the table, where all that were open may have been settled together
abbrev pub seen : (all_removed : Bool) → Decision → Decision
seen all_removed Open = if all_removed then Settled else Open
seen all_removed Assumed = Assumed
seen all_removed Settled = Settled

abbrev pub decision_in : Decisions → ℕ → Decision
decision_in d e = seen d.all_removed (slice_index_or d.table.items e Open)

pub record AreDecisions (r : PlainRecording) (entries : ℕ) (d : Decisions) : Type 0 where
  pub size : length d.table.items ≡ LARGEST_ENTITY + 1
  pub each : (e : ℕ) → e < LARGEST_ENTITY + 1 → decision_in d e ≡ decision_below r e entries

-- one more change is decided by
pub record Decides (change : Change) (old new : Decisions) : Type 0 where
  pub size : length new.table.items ≡ length old.table.items
  pub each : (e : ℕ) → e < length old.table.items → decision_in new e ≡ then_decided (decision_in old e) (decided e change)
