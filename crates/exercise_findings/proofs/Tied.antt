-- The states of all stations, one entry after another.
use Rattle.std.proofs.Common.{◌≡◌, ◌≢◌, ⊎_elim, ℕ, zero, suc, ◌+◌, ◌-◌, drop, get_or, ◌<◌, List, [], ◌∷◌, ◌++◌, length, set, cond, Option, Some, None, true, false, refl, sym, ap, ◌∙◌, subst, arith, length-append}
use Rattle.std.specs.Prelude.{IfSome, OnOk, Result, Ok, Err, is_some, slice_get, nat_eq, option_and_then, if◌then◌else◌}
use Rattle.std.specs.Option.{option_map_or}
use Rattle.std.proofs.lemmas.Bool.{cases_eq, eq-eqb, ne_eqb}
use Rattle.std.proofs.lemmas.List.{length-set, drop_more}
use Rattle.dis_records.specs.declared.entity_state.EntityState.{EntityState}
use Rattle.exercise_model.specs.declared.state.Change.{Change}
use Rattle.exercise_model.specs.Entry.{Entry}
use Rattle.exercise_model.specs.Station.{listed_state}
use Rattle.exercise_model.specs.Recording.{PlainRecording}
use Rattle.exercise_model.specs.History.{event_of, station_of, station_at}
use Rattle.exercise_model.specs.State.{changed, change_made, entity_state}
use Rattle.exercise_model.specs.Place.{event_at, own_event, log_before}
use Rattle.exercise_model.proofs.Offered.{log_steps}
use Rattle.exercise_findings.specs.declared.states.States.{States}
use Rattle.exercise_findings.specs.States.{state_in, AreUpTo, AreStatesOf, AreStatesBelow, AreStates}
use Rattle.exercise_model.specs.Account.{change_at}
use Rattle.exercise_findings.proofs.Changed.{own_change}
use Rattle.exercise_findings.proofs.EntityStates.{up_to-next, get-set_other, get-set_here}

-- ---- one entry more of a station

own_at : (r : PlainRecording) (s n : ℕ) (e : Entry) → slice_get r.entries n ≡ Some e
    → is_some (own_event r s n) ≡ nat_eq (station_of (event_of e)) s
unfolding own_event
own_at r s n e at =
    ap (λ o. is_some (option_and_then (λ e. event_at s (event_of e)) o)) at
    ∙ elim (nat_eq (station_of (event_of e)) s) as (λ b. is_some (cond b (Some (event_of e)) None) ≡ b) [ true ↦ refl | false ↦ refl ]

pub state_more : (r : PlainRecording) (s n m : ℕ)
    → entity_state r.setting.exercise (station_at r s) (log_before r s (n + 1)) m
    ≡ option_map_or (changed m (entity_state r.setting.exercise (station_at r s) (log_before r s n) m))
    (option_and_then (change_made r.setting.exercise (station_at r s) (log_before r s n)) (own_event r s n))
    (entity_state r.setting.exercise (station_at r s) (log_before r s n) m)
state_more r s n m = search log_steps

-- what station s itself changes at entry n
abbrev own : PlainRecording → ℕ → ℕ → Option Change
own r s n = option_and_then (change_made r.setting.exercise (station_at r s) (log_before r s n)) (own_event r s n)

pub own_of : (r : PlainRecording) (s n : ℕ) (e : Entry) → slice_get r.entries n ≡ Some e
    → own r s n ≡ (if nat_eq (station_of (event_of e)) s then change_at r n else None)
own_of r s n e at = own_change r s n ∙ ap (λ b. if b then change_at r n else None) (own_at r s n e at)

next_states : (r : PlainRecording) (s n : ℕ) (c : Option Change) (t u : States) → own r s n ≡ c → AreStatesOf r n s t → AreUpTo (n + 1) u
    → ((m : ℕ) → state_in u m ≡ option_map_or (changed m (state_in t m)) c (state_in t m)) → AreStatesOf r (n + 1) s u
next_states r s n c t u is before up made = record {
  up_to = up;
  states = λ m.
      let was = entity_state r.setting.exercise (station_at r s) (log_before r s n) m in
      made m ∙ ap (λ y. option_map_or (changed m y) c y) (before.states m) ∙ ap (λ o. option_map_or (changed m was) o was) (sym is)
      ∙ sym (state_more r s n m);
}

-- states stay where the entry is no change of the station
each_same : (r : PlainRecording) (s n : ℕ) (o : Option States) → own r s n ≡ None → IfSome o (AreStatesOf r n s) → IfSome o (AreStatesOf r (n + 1) s)
each_same r s n None none before = tt
each_same r s n (Some t) none before = next_states r s n None t t none before (up_to-next t n before.up_to) (λ m. refl)

-- ---- one entry more of a log

-- an entry that changes nothing
pub no_change : (r : PlainRecording) (n : ℕ) (ts : List States) → change_at r n ≡ None → AreStates r n ts → AreStates r (n + 1) ts
no_change r n ts none tied = record {
  count = tied.count;
  each = λ s. each_same r s n (slice_get ts s)
      (own_change r s n ∙ elim (is_some (own_event r s n)) as (λ b. (if b then change_at r n else None) ≡ None) [ true ↦ none | false ↦ refl ]) (tied.each s);
}

-- an entry that changes the states of its station
pub one_change : (r : PlainRecording) (n : ℕ) (e : Entry) (c : Change) (ts : List States) (t u : States) → slice_get r.entries n ≡ Some e
    → Some c ≡ change_at r n → slice_get ts (station_of (event_of e)) ≡ Some t → station_of (event_of e) < length ts → AreStates r n ts → AreUpTo (n + 1) u
    → ((m : ℕ) → state_in u m ≡ changed m (state_in t m) c) → AreStates r (n + 1) (set ts (station_of (event_of e)) u)
one_change r n e c ts t u at change here within tied up made = record {
  count = length-set ts (station_of (event_of e)) u ∙ tied.count;
  each = λ s. ⊎_elim
      (λ (same : s ≡ station_of (event_of e)).
      subst (λ o. IfSome o (AreStatesOf r (n + 1) s))
      (sym (ap (slice_get (set ts (station_of (event_of e)) u)) same ∙ get-set_here ts (station_of (event_of e)) u within))
      (next_states r s n (Some c) t u
      (own_of r s n e at ∙ ap (λ b. if b then change_at r n else None) (eq-eqb (station_of (event_of e)) s (sym same)) ∙ sym change)
      (subst (λ o. IfSome o (AreStatesOf r n s)) (ap (slice_get ts) same ∙ here) (tied.each s)) up made))
      (λ apart.
      subst (λ o. IfSome o (AreStatesOf r (n + 1) s)) (sym (get-set_other ts (station_of (event_of e)) u s apart))
      (each_same r s n (slice_get ts s)
      (own_of r s n e at ∙ ap (λ b. if b then change_at r n else None) (ne_eqb (station_of (event_of e)) s (λ same. apart (sym same)))) (tied.each s)))
      (cases_eq s (station_of (event_of e)));
}

pub on_both : {A E : Type 0} {P Q R : Type 0} (result : Result A E) → (P → Q → R) → OnOk result P → OnOk result Q → OnOk result R
on_both (Ok a) f p q = f p q
on_both (Err e) f p q = tt

-- ---- one station more

pub get-pushed_here : {X : Type 0} (xs : List X) (x : X) → slice_get (xs ++ x ∷ []) (length xs) ≡ Some x
get-pushed_here [] x = refl
get-pushed_here (y ∷ ys) x = get-pushed_here ys x

pub get-pushed_other : {X : Type 0} (xs : List X) (x : X) (k : ℕ) → k ≢ length xs → slice_get (xs ++ x ∷ []) k ≡ slice_get xs k
get-pushed_other [] x zero apart = absurd (apart refl)
get-pushed_other [] x (suc k) apart = refl
get-pushed_other (y ∷ ys) x zero apart = refl
get-pushed_other (y ∷ ys) x (suc k) apart = get-pushed_other ys x k (λ e. apart (ap suc e))

pub state_none : (r : PlainRecording) (s m : ℕ)
    → entity_state r.setting.exercise (station_at r s) (log_before r s 0) m ≡ listed_state (station_at r s).opening m
state_none r s m = search log_steps

pub opening_of : (r : PlainRecording) (s : ℕ) (t : States) → AreUpTo 0 t
    → ((m : ℕ) → state_in t m ≡ listed_state (station_at r s).opening m) → AreStatesOf r 0 s t
opening_of r s t up listed = record { up_to = up; states = λ m. listed m ∙ sym (state_none r s m) }

pub no_stations : (r : PlainRecording) (n : ℕ) → AreStatesBelow r n 0 []
no_stations r n = record { count = refl; each = λ s. tt }

pub one_station : (r : PlainRecording) (n k : ℕ) (ts us : List States) (t : States) → us ≡ ts ++ t ∷ [] → AreStatesBelow r n k ts → AreStatesOf r n k t
    → AreStatesBelow r n (k + 1) us
one_station r n k ts us t is tied here = subst (AreStatesBelow r n (k + 1)) (sym is) record {
  count = omega (arith, length-append ts (t ∷ []), tied.count);
  each = λ s. ⊎_elim
      (λ (same : s ≡ length ts).
      subst (λ o. IfSome o (AreStatesOf r n s)) (sym (ap (slice_get (ts ++ t ∷ [])) same ∙ get-pushed_here ts t))
      (subst (λ i. AreStatesOf r n i t) (sym (same ∙ tied.count)) here))
      (λ apart. subst (λ o. IfSome o (AreStatesOf r n s)) (sym (get-pushed_other ts t s apart)) (tied.each s))
      (cases_eq s (length ts));
}

-- a list of entities, from its end on: one more before the last that are done
pub listed-more : (xs : List (ℕ × EntityState)) (i done : ℕ) (x : ℕ × EntityState) (e : ℕ) → x ≡ get_or xs i x → done < length xs → i ≡ length xs - 1 - done
    → listed_state (drop (length xs - (done + 1)) xs) e ≡ (if nat_eq x.0 e then x.1 else listed_state (drop (length xs - done) xs) e)
listed-more xs i done x e at within here =
    let last : length xs - (done + 1) ≡ i = omega (arith, within, here) in
    let next : i + 1 ≡ length xs - done = omega (arith, within, here) in
    ap (λ n. listed_state (drop n xs) e) last
    ∙ ap (λ ys. listed_state ys e) (drop_more xs i x (omega (arith, within, here)))
    ∙ ap (λ (y : ℕ × EntityState). listed_state (y ∷ drop (i + 1) xs) e) (sym at)
    ∙ ap (λ n. if nat_eq x.0 e then x.1 else listed_state (drop n xs) e) next
