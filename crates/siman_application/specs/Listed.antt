-- Lists of entities by rising numbers, and the effect of a change on them.
use Rattle.std.specs.Prelude.{◌≡◌, ℕ, true, false, ◌==◌, nat_lt, List, [], ◌∷◌, map, if◌then◌else◌}
use Rattle.dis_records.specs.declared.entity_state.EntityState.{EntityState}
use Rattle.dis_records.specs.Entity.{is_create}
use Rattle.exercise_model.specs.declared.state.Change.{Change}
use Rattle.exercise_model.specs.Station.{listed_state}
use Rattle.exercise_model.specs.Cause.{is_hopeless}
use Rattle.exercise_model.specs.Change.{able, responds}
use Rattle.exercise_model.specs.State.{changed, change_of}
use Rattle.siman_pdus.specs.declared.pdu.Pdu.{Pdu}
use Rattle.siman_application.specs.Answer.{has_place}

abbrev pub Entities : Type 0
Entities = List (ℕ × EntityState)

-- the state of every number
abbrev pub states_in : Entities → ℕ → EntityState
states_in xs e = listed_state xs e

-- the list with an entity inserted in its place
abbrev pub inserted : ℕ → EntityState → Entities → Entities
inserted n y [] = (n, y) ∷ []
inserted n y (x ∷ xs) = if nat_lt x.0 n then x ∷ inserted n y xs else (n, y) ∷ x ∷ xs

-- the list with an entity removed
abbrev pub removed : ℕ → Entities → Entities
removed n [] = []
removed n (x ∷ xs) = if x.0 == n then xs else x ∷ removed n xs

-- the list with each entity changed
abbrev pub all_changed : Change → Entities → Entities
all_changed c xs = map (λ x. (x.0, changed x.0 x.1 c)) xs

-- the entities permit the change, given their states, and there is room for one more
pub record IsPossible (c : Change) (y : ℕ → EntityState) : Type 0 where
  pub possible : is_hopeless c.kind c.scope y ≡ false
  pub place : is_create c.kind ≡ true → has_place y ≡ true

-- the states after an answer, which changes them if it is Able
abbrev pub after : Pdu → Pdu → (ℕ → EntityState) → ℕ → EntityState
after p q y e = if responds able p then changed e (y e) (change_of p q) else y e
