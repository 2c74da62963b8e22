-- Where an entry of a recording stands in a run of one that adds to its logs.
use Rattle.std.proofs.Common.{◌≡◌, ℕ, zero, suc, ◌<◌, [], ◌∷◌, ◌++◌, get_or, drop, cond, true, Bool, false, Some, None, refl, sym, ap, ◌∙◌, subst, arith}
use Rattle.std.specs.Prelude.{nat_eq, slice_get, option_and_then}
use Rattle.std.specs.Option.{option_map_or}
use Rattle.std.proofs.lemmas.Bool.{eq-eqb}
use Rattle.exercise_model.specs.Entry.{Entry}
use Rattle.exercise_model.specs.Recording.{PlainRecording}
use Rattle.exercise_model.specs.History.{Event, History, event_of, station_of, log_at, log_of}
use Rattle.exercise_model.specs.Setting.{SettingData}
use Rattle.exercise_model.specs.Place.{event_at, own_event, log_before}
use Rattle.exercise_model.specs.Cause.{IsAllowed}
use Rattle.exercise_model.specs.Run.{IsRun, Explains, Contains}
use Rattle.exercise_model.proofs.Offered.{log_before-more, log_before-next, log_before-none}
use Rattle.exercise_conflict.specs.Wider.{AddsTo}
use Rattle.exercise_conflict.proofs.Additions.{stands_after}

head_same : (v w : Event) (h k : History) → v ∷ h ≡ w ∷ k → v ≡ w
head_same v w h k e = ap (λ xs. get_or xs 0 v) e

tail_same : (v w : Event) (h k : History) → v ∷ h ≡ w ∷ k → h ≡ k
tail_same v w h k e = ap (drop 1) e

no_event : (later l : History) (v : Event) → later ++ v ∷ l ≡ [] → ⊥
no_event [] l v e = absurd (cc)
no_event (x ∷ later) l v e = absurd (cc)

-- the event v of h, where its station t has this log before it
pub record IsEvent (h : History) (t : ℕ) (v : Event) (l : History) : Type 0 where
  pub before : History
  pub within : Contains h before v
  pub log : log_at t before ≡ l

one_later : (w : Event) (h : History) (t : ℕ) (v : Event) (l : History) → IsEvent h t v l → IsEvent (w ∷ h) t v l
one_later w h t v l found = record { before = found.before; within = (w ∷ found.within.0, ap (λ k. w ∷ k) found.within.1); log = found.log }

event_here : (t : ℕ) (w : Event) (h l : History) (v : Event) → ((later : History) → later ++ v ∷ l ≡ log_at t h → IsEvent h t v l)
    → (later : History) → later ++ v ∷ l ≡ w ∷ log_at t h → IsEvent (w ∷ h) t v l
event_here t w h l v rest [] e =
    record { before = h; within = ([], ap (λ x. x ∷ h) (head_same v w l (log_at t h) e)); log = sym (tail_same v w l (log_at t h) e) }
event_here t w h l v rest (x ∷ later) e = one_later w h t v l (rest later (tail_same x w (later ++ v ∷ l) (log_at t h) e))

-- what stands in a station's log stands in the history
pub from_log : (t : ℕ) (h l : History) (v : Event) (later : History) → later ++ v ∷ l ≡ log_at t h → IsEvent h t v l
unfolding log_at
from_log t [] l v later e = absurd (no_event later l v e)
from_log t (w ∷ h) l v later e =
    elim (nat_eq (station_of w) t) as (λ b. later ++ v ∷ l ≡ cond b (w ∷ log_at t h) (log_at t h) → IsEvent (w ∷ h) t v l) [
      | false ↦ λ e. one_later w h t v l (from_log t h l v later e)
      | true ↦ λ e. event_here t w h l v (from_log t h l v) later e
    ] e

run_before : (w : SettingData) (later h : History) → IsRun w (later ++ h) → IsRun w h
run_before w [] h run = run
run_before w (v ∷ later) h run = run_before w later h run.0

-- an event of a run is allowed after what happened before
pub allowed_at : (w : SettingData) (h before : History) (v : Event) → IsRun w h → Contains h before v → IsAllowed w before v
allowed_at w h before v run within = (run_before w within.0 (v ∷ before) (subst (IsRun w) (sym within.1) run)).1

-- the event of an entry is one of its station
pub own_here : (r : PlainRecording) (j : ℕ) (e : Entry) → slice_get r.entries j ≡ Some e → own_event r (station_of (event_of e)) j ≡ Some (event_of e)
unfolding own_event
own_here r j e at =
    ap (option_and_then (λ x. event_at (station_of (event_of e)) (event_of x))) at
    ∙ ap (λ b. cond b (Some (event_of e)) None) (eq-eqb (station_of (event_of e)) (station_of (event_of e)) refl)

-- in the run h of `wide` the event v of entry j of r was allowed, after a log that adds to that before the entry
pub record HasLater (r : PlainRecording) (may : Event → Bool) (h : History) (j : ℕ) (v : Event) : Type 0 where
  pub before : History
  pub within : Contains h before v
  pub allowed : IsAllowed r.setting before v
  pub adds : AddsTo may (log_before r (station_of v) j) (log_at (station_of v) before)

pub later_place : (r wide : PlainRecording) (may : Event → Bool) (h : History) (j : ℕ) (v : Event) → wide.setting ≡ r.setting
    → ((s : ℕ) → AddsTo may (log_of r s) (log_of wide s)) → Explains wide h → own_event r (station_of v) j ≡ Some v → HasLater r may h j v
later_place r wide may h j v setting logs explains own =
    let s : ℕ = station_of v in
    let next = log_before-next r s j v own in
    let at = stands_after may next.0 (log_before r s j) v (log_of wide s) (subst (λ k. AddsTo may k (log_of wide s)) (sym next.1) (logs s)) in
    let event = from_log s h at.log v at.later (at.whole ∙ sym (explains.logs s)) in
    record {
      before = event.before;
      within = event.within;
      allowed = subst (λ w. IsAllowed w event.before v) setting (allowed_at wide.setting h event.before v explains.run event.within);
      adds = subst (AddsTo may (log_before r s j)) (sym event.log) at.adds;
    }

-- ---- an event of a station's log is that of an entry

-- entry i of station t is the event v, and its log before the entry is l
pub record IsEntry (r : PlainRecording) (t i : ℕ) (v : Event) (l : History) : Type 0 where
  pub own : own_event r t i ≡ Some v
  pub log : log_before r t i ≡ l

abbrev pub Found : PlainRecording → ℕ → ℕ → Event → History → Type 0
Found r t n v l = (i : ℕ) × (i < n) × IsEntry r t i v l

found_below : (r : PlainRecording) (t n : ℕ) (v : Event) (l : History) → Found r t n v l → Found r t (suc n) v l
found_below r t n v l found = (found.0, omega (arith, found.1), found.2)

found_here : (r : PlainRecording) (t n : ℕ) (v w : Event) (l : History) → ((later : History) → later ++ v ∷ l ≡ log_before r t n → Found r t n v l)
    → own_event r t n ≡ Some w → (later : History) → later ++ v ∷ l ≡ w ∷ log_before r t n → Found r t (suc n) v l
found_here r t n v w l rest own [] e =
    (n, omega arith, record { own = own ∙ ap Some (sym (head_same v w l (log_before r t n) e)); log = sym (tail_same v w l (log_before r t n) e) })
found_here r t n v w l rest own (x ∷ later) e =
    found_below r t n v l (rest later (tail_same x w (later ++ v ∷ l) (log_before r t n) e))

pub in_log : (r : PlainRecording) (t n : ℕ) (l : History) (v : Event) (later : History) → later ++ v ∷ l ≡ log_before r t n → Found r t n v l
in_log r t zero l v later e = absurd (no_event later l v (e ∙ log_before-none r t))
in_log r t (suc n) l v later e =
    elim (own_event r t n) as (λ o. own_event r t n ≡ o → later ++ v ∷ l ≡ option_map_or (λ w. w ∷ log_before r t n) o (log_before r t n) → Found r t (suc n) v l) [
      | None ↦ λ _ e. found_below r t n v l (in_log r t n l v later e)
      | Some w ↦ λ own e. found_here r t n v w l (in_log r t n l v) own later e
    ] refl (e ∙ log_before-more r t n)
