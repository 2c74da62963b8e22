-- Going on by the next entry of a station.
use Rattle.std.proofs.Common.{◌≡◌, ℕ, ◌<◌, ◌≤◌, List, [], length, cond, Option, Some, None, Bool, true, false, refl, sym, ap, ◌∙◌, subst, arith}
use Rattle.std.specs.Prelude.{is_some, slice_get, nat_eq, ◌==◌, if◌then◌else◌, option_and_then, IfSome, IfNone}
use Rattle.std.specs.Option.{option_map_or}
use Rattle.std.proofs.lemmas.Bool.{eqb-true, eq-eqb}
use Rattle.siman_pdus.specs.declared.pdu.Pdu.{Pdu}
use Rattle.exercise_model.specs.declared.cause.Cause.{Cause}
use Rattle.exercise_model.specs.declared.cause.Cause.TheVariants.{NoSuchRecord, OutOfOrder, NeverSent}
use Rattle.exercise_model.specs.Entry.{Entry}
use Rattle.exercise_model.specs.Recording.{PlainRecording, IsRecording}
use Rattle.exercise_model.specs.Setting.{SettingData, is_recorded}
use Rattle.exercise_model.specs.History.{Event, History, event_of, station_of, log_at, log_of}
use Rattle.exercise_model.specs.Cause.{cause_of, get_cause, was_sent, IsAllowed}
use Rattle.exercise_model.specs.Place.{log_before, own_event}
use Rattle.exercise_model.proofs.Offered.{same_beginnings, beginning_length, log_before-all, recorded_heard}
use Rattle.exercise_findings.proofs.Offered.{entry_within}
use Rattle.exercise_check.specs.declared.certificate.Step.{Step}
use Rattle.exercise_check.specs.Sequence.{sequence_of, is_next, first_sender, link_of, link_number}
use Rattle.exercise_check.specs.Goodness.{link_cause, event_cause, step_cause, GoodBelow, IsReady}
use Rattle.exercise_check.specs.declared.course.Progress.{Progress}
use Rattle.exercise_check.specs.declared.course.Progress.TheVariants.{Taken, Barred}
use Rattle.exercise_check.specs.declared.judgement.Judgement.TheVariants.{Allowed, Forbidden}
use Rattle.exercise_check.specs.Course.{CourseData, with_step, GoesOn, Judges}
use Rattle.exercise_check.specs.Judging.{JudgesNext}
use Rattle.exercise_check.proofs.Goodness.{is_ready, cause_none, good_logs}
use Rattle.exercise_check.proofs.Sequences.{is_some-first_sender}

-- a datagram of a recorded station that was not sent has this cause against it
pub received_unsent : (w : SettingData) (h : History) (b : List ℕ) (p : Pdu) → is_recorded w p ≡ true → was_sent b h ≡ false
    → get_cause w h b p ≡ Some NeverSent
unfolding get_cause
received_unsent w h b p known sent = rw (recorded_heard w p known, known, sent) refl

-- there is a first sender exactly where the datagram was sent
pub sender_tells : (r : PlainRecording) (b : List ℕ) (steps : List Step) (found : Option ℕ) → found ≡ first_sender r.entries b steps
    → was_sent b (sequence_of r steps) ≡ is_some found
sender_tells r b steps found is = sym (is_some-first_sender r b steps) ∙ ap is_some (sym is)

-- the entry of an own event
pub own_entry : (r : PlainRecording) (s i : ℕ) → is_some (own_event r s i) ≡ true
    → (e : Entry) × (slice_get r.entries i ≡ Some e) × (station_of (event_of e) ≡ s) × (own_event r s i ≡ Some (event_of e))
unfolding own_event
own_entry r s i =
    let own : Entry → Option Event = λ e. if station_of (event_of e) == s then Some (event_of e) else None in
    let Found : Type 0 = (e : Entry) × (slice_get r.entries i ≡ Some e) × (station_of (event_of e) ≡ s) ×
    (option_and_then own (slice_get r.entries i) ≡ Some (event_of e)) in
    elim (slice_get r.entries i) as (λ o. slice_get r.entries i ≡ o → is_some (option_and_then own o) ≡ true → Found) [
      | None ↦ λ _ h. absurd (cc)
      | Some e ↦ λ at. elim (nat_eq (station_of (event_of e)) s) as
          (λ b. nat_eq (station_of (event_of e)) s ≡ b → is_some (cond b (Some (event_of e)) None) ≡ true → Found) [
            | false ↦ λ _ h. absurd (cc)
            | true ↦ λ same _. (e, at, eqb-true _ _ same, ap (option_and_then own) at ∙ ap (λ b. cond b (Some (event_of e)) None) same)
          ] refl
    ] refl

pub at_entry : {X : Type 0} (o : Option X) (x : X) (P : X → Type 0) → o ≡ Some x → P x → IfSome o P
at_entry o x P e p = subst (λ o. IfSome o P) (sym e) p

pub from_entry : {X : Type 0} (o : Option X) (x : X) (P : X → Type 0) → o ≡ Some x → IfSome o P → P x
from_entry o x P e p = subst (λ o. IfSome o P) e p

pub own_here : (r : PlainRecording) (s : ℕ) (found : Option ℕ) → IfSome found (λ i. is_some (own_event r s i) ≡ true)
    → IfSome found (λ i. IfSome (slice_get r.entries i) (λ e. station_of (event_of e) ≡ s))
own_here r s None own = tt
own_here r s (Some i) own = let o = own_entry r s i own in at_entry _ o.0 (λ e. station_of (event_of e) ≡ s) o.1 o.2

pub next_here : (r : PlainRecording) (steps : List Step) (s : ℕ) (found : Option ℕ) → IfSome found (λ i. is_some (own_event r s i) ≡ true)
    → IfSome found (λ i. length (log_before r s i) ≡ length (log_at s (sequence_of r steps)))
    → IfSome found (λ i. IfSome (slice_get r.entries i) (λ e. is_next r steps i (event_of e) ≡ true))
unfolding is_next
next_here r steps s None own lengths = tt
next_here r steps s (Some i) own lengths =
    let o = own_entry r s i own in
    at_entry _ o.0 (λ e. is_next r steps i (event_of e) ≡ true) o.1
    (eq-eqb _ _ (subst (λ t. length (log_at t (sequence_of r steps)) ≡ length (log_before r t i)) (sym o.2) (sym lengths)))

-- a station is done where its log has no more events
pub done_here : (r : PlainRecording) (steps : List Step) (s : ℕ) → GoodBelow r steps (length steps)
    → length (log_before r s (length r.entries)) ≤ length (log_at s (sequence_of r steps)) → log_at s (sequence_of r steps) ≡ log_of r s
done_here r steps s good le =
    let covers = good_logs r steps good s in
    same_beginnings _ _ (log_of r s) covers ([], refl) (omega (arith, beginning_length _ _ covers, ap length (log_before-all r s)))

-- the next entry can be judged
pub next_lengths : (r : PlainRecording) (steps : List Step) (i : ℕ) (v : Event) → is_next r steps i v ≡ true
    → length (log_at (station_of v) (sequence_of r steps)) ≡ length (log_before r (station_of v) i)
unfolding is_next
next_lengths r steps i v next = eqb-true _ _ next

pub next_ready : (r : PlainRecording) (steps : List Step) (i : ℕ) → GoodBelow r steps (length steps)
    → IfSome (slice_get r.entries i) (λ e. is_next r steps i (event_of e) ≡ true)
    → IfSome (slice_get r.entries i) (λ e. IsReady r steps i (event_of e))
next_ready r steps i good next =
    elim (slice_get r.entries i) as (λ o. IfSome o (λ e. is_next r steps i (event_of e) ≡ true) → IfSome o (λ e. IsReady r steps i (event_of e))) [
      | None ↦ λ _. tt
      | Some e ↦ λ here. is_ready r steps i (event_of e) good (next_lengths r steps i (event_of e) here)
    ] next

pub next_counts : (r : PlainRecording) (steps : List Step) (i : ℕ)
    → IfSome (slice_get r.entries i) (λ e. is_next r steps i (event_of e) ≡ true)
    → IfSome (slice_get r.entries i) (λ e. length (log_at (station_of (event_of e)) (sequence_of r steps)) ≡ length (log_before r (station_of (event_of e)) i))
next_counts r steps i next =
    elim (slice_get r.entries i) as (λ o. IfSome o (λ e. is_next r steps i (event_of e) ≡ true)
    → IfSome o (λ e. length (log_at (station_of (event_of e)) (sequence_of r steps)) ≡ length (log_before r (station_of (event_of e)) i))) [
      | None ↦ λ _. tt
      | Some e ↦ λ here. next_lengths r steps i (event_of e) here
    ] next

-- and where it is allowed, it makes a good step
pub next_good : (r : PlainRecording) (steps : List Step) (i number : ℕ) (e : Entry) → slice_get r.entries i ≡ Some e
    → is_next r steps i (event_of e) ≡ true → cause_of r.setting (sequence_of r steps) (event_of e) ≡ None
    → number ≡ link_number (link_of r steps i (event_of e)) → step_cause r steps (record { place = i; link = number }) ≡ None
next_good r steps i number e at next allowed link =
    cause_none r steps (record { place = i; link = number }) e
    (record { at = at; next = next_lengths r steps i (event_of e) next; allowed = allowed; link = link })

-- the first cause against a step, by what is found of it

pub missing_cause : (r : PlainRecording) (steps : List Step) (step : Step) → slice_get r.entries step.place ≡ None
    → step_cause r steps step ≡ Some NoSuchRecord
unfolding step_cause
missing_cause r steps step none = ap (λ o. option_map_or (λ e. event_cause r steps step (event_of e)) o (Some NoSuchRecord)) none

here_cause : (r : PlainRecording) (steps : List Step) (step : Step) (e : Entry) → slice_get r.entries step.place ≡ Some e
    → step_cause r steps step ≡ event_cause r steps step (event_of e)
unfolding step_cause
here_cause r steps step e at = ap (λ o. option_map_or (λ e. event_cause r steps step (event_of e)) o (Some NoSuchRecord)) at

pub out_of_order_cause : (r : PlainRecording) (steps : List Step) (step : Step) (e : Entry) → slice_get r.entries step.place ≡ Some e
    → is_next r steps step.place (event_of e) ≡ false → step_cause r steps step ≡ Some OutOfOrder
out_of_order_cause r steps step e at next = here_cause r steps step e at ∙ rw next refl

pub barred_cause : (r : PlainRecording) (steps : List Step) (step : Step) (e : Entry) (cause : Cause) → slice_get r.entries step.place ≡ Some e
    → is_next r steps step.place (event_of e) ≡ true
    → cause_of r.setting (sequence_of r steps) (event_of e) ≡ Some cause → step_cause r steps step ≡ Some cause
barred_cause r steps step e cause at next is = here_cause r steps step e at ∙ rw (next, is) refl

pub allowed_cause : (r : PlainRecording) (steps : List Step) (step : Step) (e : Entry) (link : Option ℕ) → slice_get r.entries step.place ≡ Some e
    → is_next r steps step.place (event_of e) ≡ true
    → cause_of r.setting (sequence_of r steps) (event_of e) ≡ None → link ≡ link_of r steps step.place (event_of e)
    → step_cause r steps step ≡ link_cause step.link link
allowed_cause r steps step e link at next is linked = here_cause r steps step e at ∙ rw (next, is) (ap (link_cause step.link) (sym linked))

-- the same, by what an entry is judged to be that is its station's next one

pub barred_at : (r : PlainRecording) (steps : List Step) (step : Step) (cause : Cause) → step.place < length r.entries
    → IfSome (slice_get r.entries step.place) (λ e. is_next r steps step.place (event_of e) ≡ true)
    → JudgesNext r steps step.place (Forbidden cause) → step_cause r steps step ≡ Some cause
barred_at r steps step cause within next judged =
    let e = entry_within r.entries step.place within in
    barred_cause r steps step e.0 cause e.1 (from_entry _ e.0 (λ e. is_next r steps step.place (event_of e) ≡ true) e.1 next)
    (from_entry _ e.0 (λ e. Judges (cause_of r.setting (sequence_of r steps) (event_of e)) (link_of r steps step.place (event_of e)) (length r.entries)
    (Forbidden cause)) e.1 judged)

pub allowed_at : (r : PlainRecording) (steps : List Step) (step : Step) (link : Option ℕ) → step.place < length r.entries
    → IfSome (slice_get r.entries step.place) (λ e. is_next r steps step.place (event_of e) ≡ true)
    → JudgesNext r steps step.place (Allowed link) → step_cause r steps step ≡ link_cause step.link link
allowed_at r steps step link within next judged =
    let e = entry_within r.entries step.place within in
    let j = from_entry _ e.0 (λ e. Judges (cause_of r.setting (sequence_of r steps) (event_of e)) (link_of r steps step.place (event_of e)) (length r.entries)
    (Allowed link)) e.1 judged in
    allowed_cause r steps step e.0 link e.1 (from_entry _ e.0 (λ e. is_next r steps step.place (event_of e) ≡ true) e.1 next) j.0 j.1

-- what going on by a step came to

pub disordered : (r : PlainRecording) (steps : List Step) (step : Step) (next : Bool) → step.place < length r.entries
    → IfSome (slice_get r.entries step.place) (λ e. next ≡ is_next r steps step.place (event_of e)) → next ≡ false
    → step_cause r steps step ≡ Some OutOfOrder
disordered r steps step next within is off =
    let e = entry_within r.entries step.place within in
    out_of_order_cause r steps step e.0 e.1 (sym (from_entry _ e.0 (λ e. next ≡ is_next r steps step.place (event_of e)) e.1 is) ∙ off)

-- what a call of `next_entry` that finds nothing says
pub done_if : (r : PlainRecording) (steps : List Step) (s : ℕ) (found : Option ℕ) → GoodBelow r steps (length steps)
    → IfNone found (length (log_before r s (length r.entries)) ≤ length (log_at s (sequence_of r steps)))
    → IfNone found (log_at s (sequence_of r steps) ≡ log_of r s)
done_if r steps s None good le = done_here r steps s good le
done_if r steps s (Some i) good le = tt

-- an allowed event: its link is an entry, and the step that names it is good
pub record Allows (r : PlainRecording) (steps : List Step) (place : ℕ) (link : Option ℕ) : Type 0 where
  pub within : IfSome link (λ e. e < length r.entries)
  pub good : step_cause r steps (record { place = place; link = link_number link }) ≡ None

pub allows : (r : PlainRecording) (steps : List Step) (place : ℕ) (link : Option ℕ) → place < length r.entries
    → IfSome (slice_get r.entries place) (λ e. is_next r steps place (event_of e) ≡ true)
    → IfSome (slice_get r.entries place) (λ e. Judges (cause_of r.setting (sequence_of r steps) (event_of e)) (link_of r steps place (event_of e))
    (length r.entries) (Allowed link))
    → Allows r steps place link
allows r steps place link within next judged =
    let e = entry_within r.entries place within in
    let j = from_entry _ e.0 (λ e. Judges (cause_of r.setting (sequence_of r steps) (event_of e)) (link_of r steps place (event_of e)) (length r.entries)
    (Allowed link)) e.1 judged in
    let n = from_entry _ e.0 (λ e. is_next r steps place (event_of e) ≡ true) e.1 next in
    record {
      within = j.2;
      good = next_good r steps place (link_number link) e.0 e.1 n j.0 (ap link_number j.1);
    }

pub small_link : (r : PlainRecording) (link : Option ℕ) → IsRecording r → IfSome link (λ e. e < length r.entries) → IfSome link (λ e. e < 4294967296)
small_link r None limits within = tt
small_link r (Some e) limits within = omega (arith, limits.count, within)

pub ordered : (r : PlainRecording) (steps : List Step) (place : ℕ) (next : Bool)
    → IfSome (slice_get r.entries place) (λ e. next ≡ is_next r steps place (event_of e)) → next ≡ true
    → IfSome (slice_get r.entries place) (λ e. is_next r steps place (event_of e) ≡ true)
ordered r steps place next is on =
    elim (slice_get r.entries place) as (λ o. IfSome o (λ e. next ≡ is_next r steps place (event_of e)) → IfSome o
    (λ e. is_next r steps place (event_of e) ≡ true)) [
      | None ↦ λ _. tt
      | Some e ↦ λ here. sym here ∙ on
    ] is

-- what judging the next entry says of going on by it

-- a course goes on as it does, whichever of two equal recordings it is of afterwards
pub goes_same : (r : PlainRecording) (before after : List Step) (q : PlainRecording) (place : ℕ) (progress : Progress) → r ≡ q
    → IfSome (slice_get r.entries place) (GoesOn (record { recording = r; steps = before }) (record { recording = r; steps = after }) place progress)
    → IfSome (slice_get r.entries place) (GoesOn (record { recording = r; steps = before }) (record { recording = q; steps = after }) place progress)
goes_same r before after q place progress same goes =
    subst (λ (q : PlainRecording). IfSome (slice_get r.entries place)
    (GoesOn (record { recording = r; steps = before }) (record { recording = q; steps = after }) place progress)) same goes

pub barred_goes : (old : CourseData) (place : ℕ) (cause : Cause) → JudgesNext old.recording old.steps place (Forbidden cause)
    → IfSome (slice_get old.recording.entries place) (GoesOn old old place (Barred cause))
barred_goes old place cause =
    elim (slice_get old.recording.entries place) as (λ o. IfSome o (λ e. Judges (cause_of old.recording.setting (sequence_of old.recording old.steps) (event_of e))
    (link_of old.recording old.steps place (event_of e)) (length old.recording.entries) (Forbidden cause)) → IfSome o (GoesOn old old place (Barred cause))) [
      | None ↦ λ _. tt
      | Some e ↦ λ is. record { cause_is = is; new_is = refl }
    ]

pub taken_goes : (old new : CourseData) (place number : ℕ) (link : Option ℕ) → number ≡ link_number link
    → new ≡ with_step old (record { place = place; link = number }) → JudgesNext old.recording old.steps place (Allowed link)
    → IfSome (slice_get old.recording.entries place) (GoesOn old new place (Taken number))
taken_goes old new place number link same step =
    elim (slice_get old.recording.entries place) as (λ o. IfSome o (λ e. Judges (cause_of old.recording.setting (sequence_of old.recording old.steps) (event_of e))
    (link_of old.recording old.steps place (event_of e)) (length old.recording.entries) (Allowed link)) → IfSome o (GoesOn old new place (Taken number))) [
      | None ↦ λ _. tt
      | Some e ↦ λ is. record { allowed = is.0; link_is = same ∙ ap link_number is.1; new_is = step }
    ]

pub allowed_goes : (old : CourseData) (place : ℕ) (link : Option ℕ) → JudgesNext old.recording old.steps place (Allowed link)
    → IfSome (slice_get old.recording.entries place) (λ e. IsAllowed old.recording.setting (sequence_of old.recording old.steps) (event_of e))
allowed_goes old place link =
    elim (slice_get old.recording.entries place) as (λ o. IfSome o (λ e. Judges (cause_of old.recording.setting (sequence_of old.recording old.steps) (event_of e))
    (link_of old.recording old.steps place (event_of e)) (length old.recording.entries) (Allowed link))
    → IfSome o (λ e. IsAllowed old.recording.setting (sequence_of old.recording old.steps) (event_of e))) [
      | None ↦ λ _. tt
      | Some e ↦ λ is. is.0
    ]
