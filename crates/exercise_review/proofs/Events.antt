-- Entries of a recording, and the events of a run that explains it.
use Rattle.std.proofs.Common.{◌≡◌, ℕ, zero, suc, ◌<◌, List, [], ◌∷◌, ◌++◌, length, get_or, drop, cond, true, false, Some, None, refl, sym, ap, ◌∙◌, arith}
use Rattle.std.specs.Prelude.{nat_eq, slice_get, option_and_then}
use Rattle.std.specs.Option.{option_map_or}
use Rattle.std.proofs.lemmas.Bool.{eqb-true, eq-eqb}
use Rattle.exercise_model.specs.Entry.{Entry, Sent, Received, Told}
use Rattle.exercise_model.specs.Recording.{PlainRecording}
use Rattle.exercise_model.specs.History.{Event, Send, Get, Tell, History, event_of, station_of, log_at}
use Rattle.exercise_model.specs.Place.{event_at, own_event, log_before}
use Rattle.exercise_model.specs.Run.{Explains, Contains}
use Rattle.exercise_model.proofs.Offered.{log_at-append, log_before-all, log_before-more, log_before-next, log_before-none}
use Rattle.exercise_review.specs.Entries.{bytes_sent_by, bytes_received_by, bytes_sent, bytes_received}

head_same : (v w : Event) (h k : History) → v ∷ h ≡ w ∷ k → v ≡ w
head_same v w h k e = ap (λ xs. get_or xs 0 v) e

tail_same : (v w : Event) (h k : History) → v ∷ h ≡ w ∷ k → h ≡ k
tail_same v w h k e = ap (drop 1) e

-- entry i of station t is the event v, and its log before the entry is l
pub record IsEntry (r : PlainRecording) (t i : ℕ) (v : Event) (l : History) : Type 0 where
  pub own : own_event r t i ≡ Some v
  pub log : log_before r t i ≡ l

-- the entry below n that is the event v, after the log l
abbrev Found : PlainRecording → ℕ → ℕ → Event → History → Type 0
Found r t n v l = (i : ℕ) × (i < n) × IsEntry r t i v l

found_below : (r : PlainRecording) (t n : ℕ) (v : Event) (l : History) → Found r t n v l → Found r t (suc n) v l
found_below r t n v l found = (found.0, omega (arith, found.1), found.2)

found_here : (r : PlainRecording) (t n : ℕ) (v w : Event) (l : History) → ((later : History) → later ++ v ∷ l ≡ log_before r t n → Found r t n v l)
    → own_event r t n ≡ Some w → (later : History) → later ++ v ∷ l ≡ w ∷ log_before r t n → Found r t (suc n) v l
found_here r t n v w l rest own [] e =
    (n, omega arith, record { own = own ∙ ap Some (sym (head_same v w l (log_before r t n) e)); log = sym (tail_same v w l (log_before r t n) e) })
found_here r t n v w l rest own (x ∷ later) e =
    found_below r t n v l (rest later (tail_same x w (later ++ v ∷ l) (log_before r t n) e))

no_event : (later l : History) (v : Event) → later ++ v ∷ l ≡ [] → ⊥
no_event [] l v e = absurd (cc)
no_event (x ∷ later) l v e = absurd (cc)

-- an event of a station's log is that of an entry
in_log : (r : PlainRecording) (t n : ℕ) (l : History) (v : Event) (later : History) → later ++ v ∷ l ≡ log_before r t n → Found r t n v l
in_log r t zero l v later e = absurd (no_event later l v (e ∙ log_before-none r t))
in_log r t (suc n) l v later e =
    elim (own_event r t n) as (λ o. own_event r t n ≡ o → later ++ v ∷ l ≡ option_map_or (λ w. w ∷ log_before r t n) o (log_before r t n) → Found r t (suc n) v l) [
      | None ↦ λ _ e. found_below r t n v l (in_log r t n l v later e)
      | Some w ↦ λ own e. found_here r t n v w l (in_log r t n l v) own later e
    ] refl (e ∙ log_before-more r t n)

pub own_first : (t : ℕ) (v : Event) (h : History) → station_of v ≡ t → log_at t (v ∷ h) ≡ v ∷ log_at t h
unfolding log_at
own_first t v h own = ap (λ b. cond b (v ∷ log_at t h) (log_at t h)) (eq-eqb (station_of v) t own)

-- AN EVENT OF A RUN is that of an entry, with the same log before
pub entry_of : (r : PlainRecording) (h before : History) (v : Event) (t : ℕ) → Explains r h → station_of v ≡ t → Contains h before v
    → (i : ℕ) × (i < length r.entries) × IsEntry r t i v (log_at t before)
entry_of r h before v t explains own within =
    in_log r t (length r.entries) (log_at t before) v (log_at t within.0)
    (ap (λ k. log_at t within.0 ++ k) (sym (own_first t v before own)) ∙ sym (log_at-append t within.0 (v ∷ before)) ∙ ap (log_at t) within.1
    ∙ explains.logs t ∙ sym (log_before-all r t))

-- the event v of h, where its station t has this log before it
pub record IsEvent (h : History) (t : ℕ) (v : Event) (l : History) : Type 0 where
  pub before : History
  pub within : Contains h before v
  pub log : log_at t before ≡ l

one_later : (w : Event) (h : History) (t : ℕ) (v : Event) (l : History) → IsEvent h t v l → IsEvent (w ∷ h) t v l
one_later w h t v l found = record { before = found.before; within = (w ∷ found.within.0, ap (λ k. w ∷ k) found.within.1); log = found.log }

event_here : (t : ℕ) (w : Event) (h l : History) (v : Event) → ((later : History) → later ++ v ∷ l ≡ log_at t h → IsEvent h t v l)
    → (later : History) → later ++ v ∷ l ≡ w ∷ log_at t h → IsEvent (w ∷ h) t v l
event_here t w h l v rest [] e =
    record { before = h; within = ([], ap (λ x. x ∷ h) (head_same v w l (log_at t h) e)); log = sym (tail_same v w l (log_at t h) e) }
event_here t w h l v rest (x ∷ later) e = one_later w h t v l (rest later (tail_same x w (later ++ v ∷ l) (log_at t h) e))

-- what stands in a station's log stands in the history
from_log : (t : ℕ) (h l : History) (v : Event) (later : History) → later ++ v ∷ l ≡ log_at t h → IsEvent h t v l
unfolding log_at
from_log t [] l v later e = absurd (no_event later l v e)
from_log t (w ∷ h) l v later e =
    elim (nat_eq (station_of w) t) as (λ b. later ++ v ∷ l ≡ cond b (w ∷ log_at t h) (log_at t h) → IsEvent (w ∷ h) t v l) [
      | false ↦ λ e. one_later w h t v l (from_log t h l v later e)
      | true ↦ λ e. event_here t w h l v (from_log t h l v) later e
    ] e

-- AN ENTRY OF A STATION is an event of each run that explains the recording
pub event_of_entry : (r : PlainRecording) (h : History) (t i : ℕ) (v : Event) → Explains r h → own_event r t i ≡ Some v → IsEvent h t v (log_before r t i)
event_of_entry r h t i v explains own =
    let next = log_before-next r t i v own in
    from_log t h (log_before r t i) v next.0 (next.1 ∙ sym (explains.logs t))

-- ---- the bytes of an event

-- what an entry of a station receives
pub got_is : (r : PlainRecording) (t i : ℕ) (b : List ℕ) → own_event r t i ≡ Some (Get t b) → bytes_received r t i ≡ Some b
unfolding own_event bytes_received
got_is r t i b =
    elim (slice_get r.entries i) as (λ o. option_and_then (λ e. event_at t (event_of e)) o ≡ Some (Get t b) → option_and_then (bytes_received_by t) o ≡ Some b) [
      | None ↦ λ e. absurd (cc)
      | Some e ↦ of_entry e
    ]
  where
    of_entry : (e : Entry) → event_at t (event_of e) ≡ Some (Get t b) → bytes_received_by t e ≡ Some b
    of_entry (Sent s stamp c) = elim (nat_eq s t) as (λ q. cond q (Some (Send s c)) None ≡ Some (Get t b) → None ≡ Some b) [ true ↦ λ e. absurd (cc) | false ↦ λ e. absurd (cc) ]
    of_entry (Received s stamp c) = elim (nat_eq s t) as (λ q. cond q (Some (Get s c)) None ≡ Some (Get t b) → cond q (Some c) None ≡ Some b) [ true ↦ λ e. cc | false ↦ λ e. absurd (cc) ]
    of_entry (Told s n y) = elim (nat_eq s t) as (λ q. cond q (Some (Tell s n y)) None ≡ Some (Get t b) → None ≡ Some b) [ true ↦ λ e. absurd (cc) | false ↦ λ e. absurd (cc) ]

-- and the other way round
pub got_event : (r : PlainRecording) (t i : ℕ) (b : List ℕ) → bytes_received r t i ≡ Some b → own_event r t i ≡ Some (Get t b)
unfolding own_event bytes_received
got_event r t i b =
    elim (slice_get r.entries i) as (λ o. option_and_then (bytes_received_by t) o ≡ Some b → option_and_then (λ e. event_at t (event_of e)) o ≡ Some (Get t b)) [
      | None ↦ λ e. absurd (cc)
      | Some e ↦ of_entry e
    ]
  where
    of_entry : (e : Entry) → bytes_received_by t e ≡ Some b → event_at t (event_of e) ≡ Some (Get t b)
    of_entry (Sent s stamp c) = λ e. absurd (cc)
    of_entry (Received s stamp c) =
        elim (nat_eq s t) as (λ q. nat_eq s t ≡ q → cond q (Some c) None ≡ Some b → cond q (Some (Get s c)) None ≡ Some (Get t b)) [
          | true ↦ λ own e. let at = eqb-true s t own in cc
          | false ↦ λ own e. absurd (cc)
        ] refl
    of_entry (Told s n y) = λ e. absurd (cc)

-- what an entry of a station sends
pub sent_is : (r : PlainRecording) (t i : ℕ) (b : List ℕ) → own_event r t i ≡ Some (Send t b) → bytes_sent r t i ≡ Some b
unfolding own_event bytes_sent
sent_is r t i b =
    elim (slice_get r.entries i) as (λ o. option_and_then (λ e. event_at t (event_of e)) o ≡ Some (Send t b) → option_and_then (bytes_sent_by t) o ≡ Some b) [
      | None ↦ λ e. absurd (cc)
      | Some e ↦ of_entry e
    ]
  where
    of_entry : (e : Entry) → event_at t (event_of e) ≡ Some (Send t b) → bytes_sent_by t e ≡ Some b
    of_entry (Sent s stamp c) = elim (nat_eq s t) as (λ q. cond q (Some (Send s c)) None ≡ Some (Send t b) → cond q (Some c) None ≡ Some b) [ true ↦ λ e. cc | false ↦ λ e. absurd (cc) ]
    of_entry (Received s stamp c) = elim (nat_eq s t) as (λ q. cond q (Some (Get s c)) None ≡ Some (Send t b) → None ≡ Some b) [ true ↦ λ e. absurd (cc) | false ↦ λ e. absurd (cc) ]
    of_entry (Told s n y) = elim (nat_eq s t) as (λ q. cond q (Some (Tell s n y)) None ≡ Some (Send t b) → None ≡ Some b) [ true ↦ λ e. absurd (cc) | false ↦ λ e. absurd (cc) ]

pub sent_event : (r : PlainRecording) (t i : ℕ) (b : List ℕ) → bytes_sent r t i ≡ Some b → own_event r t i ≡ Some (Send t b)
unfolding own_event bytes_sent
sent_event r t i b =
    elim (slice_get r.entries i) as (λ o. option_and_then (bytes_sent_by t) o ≡ Some b → option_and_then (λ e. event_at t (event_of e)) o ≡ Some (Send t b)) [
      | None ↦ λ e. absurd (cc)
      | Some e ↦ of_entry e
    ]
  where
    of_entry : (e : Entry) → bytes_sent_by t e ≡ Some b → event_at t (event_of e) ≡ Some (Send t b)
    of_entry (Received s stamp c) = λ e. absurd (cc)
    of_entry (Sent s stamp c) =
        elim (nat_eq s t) as (λ q. nat_eq s t ≡ q → cond q (Some c) None ≡ Some b → cond q (Some (Send s c)) None ≡ Some (Send t b)) [
          | true ↦ λ own e. let at = eqb-true s t own in cc
          | false ↦ λ own e. absurd (cc)
        ] refl
    of_entry (Told s n y) = λ e. absurd (cc)
