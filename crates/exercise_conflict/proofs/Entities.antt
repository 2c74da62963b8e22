-- The state of an entity, one entry more at a time, and what made it.
use Rattle.std.proofs.Common.{◌≡◌, ◌≢◌, ⊎_elim, ℕ, zero, suc, ◌+◌, ◌<◌, ◌≤◌, ◌∷◌, cond, Bool, Some, None, true, false, refl, sym, ap, ◌∙◌, subst, arith}
use Rattle.std.specs.Prelude.{nat_eq, slice_get, option_and_then, if◌then◌else◌}
use Rattle.std.specs.Option.{option_map_or}
use Rattle.std.proofs.Math.Numerals.{add-one}
use Rattle.std.proofs.lemmas.Bool.{cases_lt, eqb-true}
use Rattle.std.proofs.lemmas.Option.{same_Some}
use Rattle.dis_records.specs.declared.entity_state.EntityState.{EntityState}
use Rattle.dis_records.specs.declared.entity_state.EntityState.TheVariants as states
use Rattle.exercise_model.specs.declared.state.Change.{Change}
use Rattle.exercise_model.specs.Entry.{Entry}
use Rattle.exercise_model.specs.Recording.{PlainRecording}
use Rattle.exercise_model.specs.Station.{is_entity, listed_state}
use Rattle.exercise_model.specs.History.{event_of, station_of, station_at}
use Rattle.exercise_model.specs.State.{changed, change_made, entity_state, state_after}
use Rattle.exercise_model.specs.Cause.{same_state}
use Rattle.exercise_model.specs.Place.{event_at, own_event, log_before}
use Rattle.exercise_model.specs.Account.{changed_by, change_at}
use Rattle.exercise_model.proofs.Offered.{log_before-more, log_before-none}
use Rattle.exercise_findings.specs.State.{state_before}
use Rattle.exercise_conflict.specs.Since.{last_change_entry, HasOneState, Made}

-- what an entry of a station changes, by the entry alone
pub own_changes : (r : PlainRecording) (s j : ℕ) (e : Entry) → slice_get r.entries j ≡ Some e
    → option_and_then (change_made r.setting.exercise (station_at r s) (log_before r s j)) (own_event r s j)
    ≡ (if nat_eq (station_of (event_of e)) s then change_at r j else None)
unfolding own_event change_at
own_changes r s j e at =
    ap (λ o. option_and_then (change_made r.setting.exercise (station_at r s) (log_before r s j)) (option_and_then (λ x. event_at s (event_of x)) o)) at
    ∙ elim (nat_eq (station_of (event_of e)) s) as (λ b. nat_eq (station_of (event_of e)) s ≡ b
    → option_and_then (change_made r.setting.exercise (station_at r s) (log_before r s j)) (cond b (Some (event_of e)) None)
    ≡ (if b then option_and_then (λ x. changed_by r j (event_of x)) (slice_get r.entries j) else None)) [
      | false ↦ λ _. refl
      | true ↦ λ near. ap (λ t. change_made r.setting.exercise (station_at r t) (log_before r t j) (event_of e)) (sym (eqb-true _ s near))
          ∙ ap (option_and_then (λ x. changed_by r j (event_of x))) (sym at)
    ] refl

pub entity_none : (r : PlainRecording) (s e : ℕ) → entity_state r.setting.exercise (station_at r s) (log_before r s 0) e ≡ listed_state (station_at r s).opening e
unfolding entity_state
entity_none r s e = ap (λ l. entity_state r.setting.exercise (station_at r s) l e) (log_before-none r s)

pub entity_more : (r : PlainRecording) (s n e : ℕ) → entity_state r.setting.exercise (station_at r s) (log_before r s (suc n)) e
    ≡ option_map_or (changed e (entity_state r.setting.exercise (station_at r s) (log_before r s n) e))
    (option_and_then (change_made r.setting.exercise (station_at r s) (log_before r s n)) (own_event r s n)) (entity_state r.setting.exercise (station_at r s) (log_before r s n) e)
unfolding entity_state
entity_more r s n e =
    ap (λ l. entity_state r.setting.exercise (station_at r s) l e) (log_before-more r s n)
    ∙ elim (own_event r s n) as (λ o. entity_state r.setting.exercise (station_at r s) (option_map_or (λ v. v ∷ log_before r s n) o (log_before r s n)) e
    ≡ option_map_or (changed e (entity_state r.setting.exercise (station_at r s) (log_before r s n) e))
    (option_and_then (change_made r.setting.exercise (station_at r s) (log_before r s n)) o) (entity_state r.setting.exercise (station_at r s) (log_before r s n) e)) [
      | None ↦ refl
      | Some v ↦ refl
    ]

pub state_there : (r : PlainRecording) (s e n : ℕ) → is_entity e ≡ true → state_before r s e n ≡ entity_state r.setting.exercise (station_at r s) (log_before r s n) e
unfolding state_after
state_there r s e n is = ap (λ (b : Bool). if b then entity_state r.setting.exercise (station_at r s) (log_before r s n) e else states.Absent) is

pub state_nowhere : (r : PlainRecording) (s e n : ℕ) → is_entity e ≡ false → state_before r s e n ≡ states.Absent
unfolding state_after
state_nowhere r s e n is = ap (λ (b : Bool). if b then entity_state r.setting.exercise (station_at r s) (log_before r s n) e else states.Absent) is

pub state_same_is : (y z : EntityState) → same_state y z ≡ true → y ≡ z
state_same_is states.Absent states.Absent e = refl
state_same_is states.Absent states.Stopped e = absurd (cc)
state_same_is states.Absent states.Running e = absurd (cc)
state_same_is states.Stopped states.Absent e = absurd (cc)
state_same_is states.Stopped states.Stopped e = refl
state_same_is states.Stopped states.Running e = absurd (cc)
state_same_is states.Running states.Absent e = absurd (cc)
state_same_is states.Running states.Stopped e = absurd (cc)
state_same_is states.Running states.Running e = refl

state_itself : (y : EntityState) → same_state y y ≡ true
state_itself states.Absent = refl
state_itself states.Stopped = refl
state_itself states.Running = refl

pub same_state_where : (y z : EntityState) → y ≡ z → same_state y z ≡ true
same_state_where y z same = ap (same_state y) (sym same) ∙ state_itself y

-- ---- what made a state

pub since_none : (r : PlainRecording) (s e : ℕ) → last_change_entry r s e 0 ≡ None
unfolding last_change_entry
since_none r s e = refl

pub since_nowhere : (r : PlainRecording) (s e n : ℕ) → is_entity e ≡ false → last_change_entry r s e n ≡ None
unfolding last_change_entry
since_nowhere r s e zero none = refl
since_nowhere r s e (suc n) none =
    ap (λ (b : Bool). if b then last_change_entry r s e n else Some n)
    (same_state_where _ _ (state_nowhere r s e n none ∙ sym (state_nowhere r s e (suc n) none))) ∙ since_nowhere r s e n none

pub since_still : (r : PlainRecording) (s e n : ℕ) → state_before r s e n ≡ state_before r s e (suc n) → last_change_entry r s e (suc n) ≡ last_change_entry r s e n
unfolding last_change_entry
since_still r s e n same = ap (λ (b : Bool). if b then last_change_entry r s e n else Some n) (same_state_where _ _ same)

pub since_here : (r : PlainRecording) (s e n : ℕ) → state_before r s e n ≢ state_before r s e (suc n) → last_change_entry r s e (suc n) ≡ Some n
unfolding last_change_entry
since_here r s e n apart =
    elim (same_state (state_before r s e n) (state_before r s e (suc n))) as (λ b. same_state (state_before r s e n) (state_before r s e (suc n)) ≡ b
    → (if b then last_change_entry r s e n else Some n) ≡ Some n) [
      | true ↦ λ same. absurd (apart (state_same_is _ _ same))
      | false ↦ λ _. refl
    ] refl

no_event : (r : PlainRecording) (s n : ℕ) → slice_get r.entries n ≡ None → own_event r s n ≡ None
unfolding own_event
no_event r s n none = ap (option_and_then (λ e. event_at s (event_of e))) none

-- what an entry of a station changes, it changes
change_own : (r : PlainRecording) (s n : ℕ) (c : Change)
    → option_and_then (change_made r.setting.exercise (station_at r s) (log_before r s n)) (own_event r s n) ≡ Some c → change_at r n ≡ Some c
change_own r s n c is =
    elim (slice_get r.entries n) as (λ o. slice_get r.entries n ≡ o → change_at r n ≡ Some c) [
      | None ↦ λ none. absurd (cc (sym (ap (option_and_then (change_made r.setting.exercise (station_at r s) (log_before r s n))) (no_event r s n none)) ∙ is))
      | Some e ↦ λ at. here (nat_eq (station_of (event_of e)) s) (sym (own_changes r s n e at) ∙ is)
    ] refl
  where
    here : (b : Bool) → (if b then change_at r n else None) ≡ Some c → change_at r n ≡ Some c
    here true e = e
    here false e = absurd (cc)

-- where the state is another one behind an entry, the entry is a change
changed_by_entry : (r : PlainRecording) (s e n : ℕ) → state_before r s e n ≢ state_before r s e (suc n) → (c : Change) × (change_at r n ≡ Some c)
changed_by_entry r s e n apart =
    elim (is_entity e) as (λ b. is_entity e ≡ b → (c : Change) × (change_at r n ≡ Some c)) [
      | false ↦ λ none. absurd (apart (state_nowhere r s e n none ∙ sym (state_nowhere r s e (suc n) none)))
      | true ↦ λ is. elim (option_and_then (change_made r.setting.exercise (station_at r s) (log_before r s n)) (own_event r s n)) as
          (λ o. option_and_then (change_made r.setting.exercise (station_at r s) (log_before r s n)) (own_event r s n) ≡ o → (c : Change) × (change_at r n ≡ Some c)) [
            | Some c ↦ λ made. (c, change_own r s n c made)
            | None ↦ λ none. absurd (apart (state_there r s e n is
                ∙ sym (entity_more r s n e
                ∙ ap (λ o. option_map_or (changed e (entity_state r.setting.exercise (station_at r s) (log_before r s n) e)) o
                (entity_state r.setting.exercise (station_at r s) (log_before r s n) e)) none)
                ∙ sym (state_there r s e (suc n) is)))
          ] refl
    ] refl

one_more : (r : PlainRecording) (s e from n : ℕ) → state_before r s e n ≡ state_before r s e (suc n) → HasOneState r s e from n → HasOneState r s e from (suc n)
one_more r s e from n same one m above below =
    ⊎_elim
    (λ (less : m < suc n). one m above (omega (arith, less)) ∙ same)
    (λ (most : suc n ≤ m). let at : m ≡ suc n = omega (arith, below, most) in ap (state_before r s e) at)
    (cases_lt m (suc n))

at_once : (r : PlainRecording) (s e n : ℕ) → HasOneState r s e n n
at_once r s e n m above below = let at : m ≡ n = omega (arith, above, below) in ap (state_before r s e) at

-- WHAT MADE A STATE IS A CHANGE, AND NONE CAME AFTER IT
pub since_made : (r : PlainRecording) (s e n k : ℕ) → last_change_entry r s e n ≡ Some k → Made r s e n k
unfolding last_change_entry
since_made r s e zero k is = absurd (cc)
since_made r s e (suc n) k is =
    elim (same_state (state_before r s e n) (state_before r s e (suc n))) as (λ b. same_state (state_before r s e n) (state_before r s e (suc n)) ≡ b
    → (if b then last_change_entry r s e n else Some n) ≡ Some k → Made r s e (suc n) k) [
      | true ↦ λ same is.
          let before = since_made r s e n k is in
          record {
            earlier = omega (arith, before.earlier);
            change = before.change;
            is = before.is;
            other = before.other;
            since = one_more r s e (suc k) n (state_same_is _ _ same) before.since;
          }
      | false ↦ λ apart is.
          let differ : state_before r s e n ≢ state_before r s e (suc n) = λ same. absurd (cc (sym apart ∙ same_state_where _ _ same)) in
          let made = changed_by_entry r s e n differ in
          subst (Made r s e (suc n)) (same_Some n k is) (record {
            earlier = omega arith;
            change = made.0;
            is = made.1;
            other = differ;
            since = at_once r s e (suc n);
          })
    ] refl is

-- WHERE NOTHING MADE IT, IT IS THAT OF THE START
pub since_start : (r : PlainRecording) (s e n : ℕ) → last_change_entry r s e n ≡ None → HasOneState r s e 0 n
unfolding last_change_entry
since_start r s e zero none = at_once r s e 0
since_start r s e (suc n) none =
    elim (same_state (state_before r s e n) (state_before r s e (suc n))) as (λ b. same_state (state_before r s e n) (state_before r s e (suc n)) ≡ b
    → (if b then last_change_entry r s e n else Some n) ≡ None → HasOneState r s e 0 (suc n)) [
      | true ↦ λ same none. one_more r s e 0 n (state_same_is _ _ same) (since_start r s e n none)
      | false ↦ λ _ none. absurd (cc)
    ] refl none

-- ---- one entry more, as a loop has it

pub entity_next : (r : PlainRecording) (s n e : ℕ) (y z : EntityState) → y ≡ entity_state r.setting.exercise (station_at r s) (log_before r s n) e
    → z ≡ option_map_or (changed e y) (option_and_then (change_made r.setting.exercise (station_at r s) (log_before r s n)) (own_event r s n)) y
    → z ≡ entity_state r.setting.exercise (station_at r s) (log_before r s (n + 1)) e
entity_next r s n e y z before after =
    after
    ∙ ap (λ (x : EntityState). option_map_or (changed e x) (option_and_then (change_made r.setting.exercise (station_at r s) (log_before r s n)) (own_event r s n)) x) before
    ∙ sym (entity_more r s n e)
    ∙ ap (λ k. entity_state r.setting.exercise (station_at r s) (log_before r s k) e) (sym (add-one n))

-- where the state is the same behind an entry, it was made where it was made before
pub since_alike : (r : PlainRecording) (s n e : ℕ) (y z : EntityState) → is_entity e ≡ true → y ≡ entity_state r.setting.exercise (station_at r s) (log_before r s n) e
    → z ≡ entity_state r.setting.exercise (station_at r s) (log_before r s (n + 1)) e → same_state z y ≡ true → last_change_entry r s e n ≡ last_change_entry r s e (n + 1)
since_alike r s n e y z is before after alike =
    let first : state_before r s e n ≡ y = state_there r s e n is ∙ sym before in
    let second : state_before r s e (suc n) ≡ z =
    state_there r s e (suc n) is ∙ ap (λ k. entity_state r.setting.exercise (station_at r s) (log_before r s k) e) (sym (add-one n)) ∙ sym after in
    sym (since_still r s e n (first ∙ sym (state_same_is z y alike) ∙ sym second)) ∙ ap (last_change_entry r s e) (sym (add-one n))

-- where it is another one, it was made there
pub since_apart : (r : PlainRecording) (s n e : ℕ) (y z : EntityState) → is_entity e ≡ true → y ≡ entity_state r.setting.exercise (station_at r s) (log_before r s n) e
    → z ≡ entity_state r.setting.exercise (station_at r s) (log_before r s (n + 1)) e → same_state z y ≡ false → Some n ≡ last_change_entry r s e (n + 1)
since_apart r s n e y z is before after apart =
    let first : state_before r s e n ≡ y = state_there r s e n is ∙ sym before in
    let second : state_before r s e (suc n) ≡ z =
    state_there r s e (suc n) is ∙ ap (λ k. entity_state r.setting.exercise (station_at r s) (log_before r s k) e) (sym (add-one n)) ∙ sym after in
    sym (since_here r s e n (λ equal. absurd (cc (sym apart ∙ same_state_where z y (sym second ∙ sym equal ∙ first))))) ∙ ap (last_change_entry r s e) (sym (add-one n))
