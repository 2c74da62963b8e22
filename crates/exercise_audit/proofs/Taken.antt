-- What a step changes at the other stations.
use Rattle.std.proofs.Common.{◌≡◌, ◌≢◌, inl, inr, ℕ, suc, List, [], ◌∷◌, ◌++◌, length, cond, Option, Some, None, Bool, true, false, refl, sym, ap, ◌∙◌, subst, arith}
use Rattle.std.specs.Prelude.{◌⊎◌, ◌&&◌, not, nat_eq, nat_lt, slice_get, is_some, option_and_then, if◌then◌else◌}
use Rattle.std.specs.Option.{option_map_or}
use Rattle.std.proofs.lemmas.Bool.{eqb-true, eq-eqb, cases_order, cases_eq, lt-ltb, le-ltb}
use Rattle.std.proofs.lemmas.Option.{same_Some}
use Rattle.exercise_model.specs.declared.cause.Cause.{Cause}
use Rattle.exercise_model.specs.declared.cause.Cause.TheVariants.{NeverSent, Stranger}
use Rattle.exercise_model.specs.Entry.{Entry, Sent, Received, Told}
use Rattle.exercise_model.specs.Recording.{PlainRecording}
use Rattle.exercise_model.specs.Setting.{SettingData, station_in, may_be_heard, is_recorded}
use Rattle.exercise_model.specs.History.{Event, Send, Get, Tell, History, event_of, station_of, log_at}
use Rattle.exercise_model.specs.Meaning.{meaning}
use Rattle.exercise_model.specs.State.{state_after}
use Rattle.exercise_model.specs.Cause.{cause_of, get_cause, send_cause, was_sent, first_cause, tell_rows}
use Rattle.exercise_model.specs.Place.{log_before, own_event}
use Rattle.exercise_model.proofs.Offered.{passes}
use Rattle.exercise_findings.specs.Source.{source_of}
use Rattle.exercise_check.specs.declared.certificate.Step.{Step}
use Rattle.exercise_check.specs.Sequence.{sequence_of}
use Rattle.exercise_check.specs.Judging.{was_taken, if_taken}
use Rattle.exercise_check.specs.Course.{CourseData, IsCourse, with_step, so_far}
use Rattle.exercise_check.proofs.Offered.{unsent, source_first, sender_tells, sequence_of-snoc}
use Rattle.exercise_audit.proofs.Held.{own_from}

-- ---- the logs after an event

pub log_other : (s : ℕ) (v : Event) (h : History) → station_of v ≢ s → log_at s (v ∷ h) ≡ log_at s h
unfolding log_at
log_other s v h other =
    elim (nat_eq (station_of v) s) as (λ t. nat_eq (station_of v) s ≡ t → cond t (v ∷ log_at s h) (log_at s h) ≡ log_at s h) [
      | true ↦ λ same. absurd (other (eqb-true _ _ same))
      | false ↦ λ _. refl
    ] refl

pub log_own : (s : ℕ) (v : Event) (h : History) → station_of v ≡ s → log_at s (v ∷ h) ≡ v ∷ log_at s h
unfolding log_at
log_own s v h same = ap (λ t. cond t (v ∷ log_at s h) (log_at s h)) (eq-eqb (station_of v) s same)

-- the history after a step
pub after_step : (c : CourseData) (step : Step) (e : Entry) → slice_get c.recording.entries step.place ≡ Some e
    → so_far (with_step c step) ≡ event_of e ∷ so_far c
after_step c step e at =
    sequence_of-snoc c.recording c.steps step ∙ ap (λ o. option_map_or (λ e. event_of e ∷ so_far c) o (so_far c)) at

-- ---- causes that stay

-- the causes on receiving, by who may be heard, who must have sent it, and whether it was sent
abbrev rows : Bool → Bool → Bool → Option Cause
rows heard must sent = first_cause ((not heard, Stranger) ∷ (must && not sent, NeverSent) ∷ [])

-- where as much was sent, and the station did the same
pub cause_same : (w : SettingData) (h k : History) (v : Event) → log_at (station_of v) h ≡ log_at (station_of v) k
    → ((s : ℕ) (b : List ℕ) → v ≡ Get s b → was_sent b h ≡ was_sent b k) → cause_of w h v ≡ cause_of w k v
unfolding cause_of get_cause
cause_same w h k (Send s b) same sent = ap (λ log. option_and_then (send_cause w.exercise (station_in w s) log) (meaning w.exercise b)) same
cause_same w h k (Get s b) same sent =
    ap (λ t. option_and_then (λ p. rows (may_be_heard w p) (is_recorded w p) t) (meaning w.exercise b)) (sent s b refl)
cause_same w h k (Tell s e y) same sent = ap (λ log. first_cause (tell_rows y (state_after w.exercise (station_in w s) log e))) same

-- a receipt has a cause other than that it was never sent, whatever was sent
received_other : (w : SettingData) (h k : History) (s : ℕ) (b : List ℕ) (cause : Cause) → cause ≢ NeverSent → cause_of w h (Get s b) ≡ Some cause
    → cause_of w k (Get s b) ≡ Some cause
unfolding cause_of get_cause
received_other w h k s b cause other =
    elim (meaning w.exercise b) as (λ o. option_and_then (get_cause w h b) o ≡ Some cause → option_and_then (get_cause w k b) o ≡ Some cause) [
      | None ↦ λ e. e
      | Some p ↦ elim (may_be_heard w p) as
          (λ heard. rows heard (is_recorded w p) (was_sent b h) ≡ Some cause → rows heard (is_recorded w p) (was_sent b k) ≡ Some cause) [
            | false ↦ λ e. e
            | true ↦ elim (is_recorded w p) as (λ must. rows true must (was_sent b h) ≡ Some cause → rows true must (was_sent b k) ≡ Some cause) [
              | false ↦ λ e. absurd (cc)
              | true ↦ elim (was_sent b h) as (λ sent. rows true true sent ≡ Some cause → rows true true (was_sent b k) ≡ Some cause) [
                | true ↦ λ e. absurd (cc)
                | false ↦ λ e. absurd (other (sym (same_Some NeverSent cause e)))
              ]
            ]
          ]
    ]

pub other_stays : (w : SettingData) (h k : History) (v : Event) (cause : Cause) → cause ≢ NeverSent → log_at (station_of v) k ≡ log_at (station_of v) h
    → cause_of w h v ≡ Some cause → cause_of w k v ≡ Some cause
other_stays w h k (Send s b) cause other same e = cause_same w k h (Send s b) same (λ t c is. absurd (cc)) ∙ e
other_stays w h k (Get s b) cause other same e = received_other w h k s b cause other e
other_stays w h k (Tell s n y) cause other same e = cause_same w k h (Tell s n y) same (λ t c is. absurd (cc)) ∙ e

-- what was never sent after some history, was never sent if nothing happened
never_alone : (w : SettingData) (h : History) (s : ℕ) (b : List ℕ) → cause_of w h (Get s b) ≡ Some NeverSent → cause_of w [] (Get s b) ≡ Some NeverSent
unfolding cause_of get_cause was_sent
never_alone w h s b =
    elim (meaning w.exercise b) as (λ o. option_and_then (get_cause w h b) o ≡ Some NeverSent → option_and_then (get_cause w [] b) o ≡ Some NeverSent) [
      | None ↦ λ e. absurd (cc)
      | Some p ↦ elim (may_be_heard w p) as
          (λ heard. rows heard (is_recorded w p) (was_sent b h) ≡ Some NeverSent → rows heard (is_recorded w p) false ≡ Some NeverSent) [
            | false ↦ λ e. absurd (cc)
            | true ↦ elim (is_recorded w p) as (λ must. rows true must (was_sent b h) ≡ Some NeverSent → rows true must false ≡ Some NeverSent) [
              | false ↦ λ e. absurd (cc)
              | true ↦ λ _. refl
            ]
          ]
    ]

-- ---- what was taken

-- two numbers are as before, where one of them is one more and was not the other
less_same : (rank count more : ℕ) → more ≡ suc count → (rank ≡ count → ⊥) → nat_lt rank more ≡ nat_lt rank count
less_same rank count more is differ = elim (cases_order rank count) [
  | inl equal ↦ absurd (differ equal)
  | inr (inl below) ↦ lt-ltb rank more (omega (arith, is, below)) ∙ sym (lt-ltb rank count below)
  | inr (inr above) ↦ le-ltb rank more (omega (arith, is, above)) ∙ sym (le-ltb rank count (omega (arith, above)))
]

-- another entry of a station has another number of entries before it
other_rank : (r : PlainRecording) (t i q : ℕ) → is_some (own_event r t i) ≡ true → is_some (own_event r t q) ≡ true → i ≢ q
    → length (log_before r t q) ≡ length (log_before r t i) → ⊥
other_rank r t i q own there differ same = elim (cases_order i q) [
  | inl equal ↦ differ equal
  | inr (inl below) ↦ absurd (omega (arith, same, passes r t i q own below))
  | inr (inr above) ↦ absurd (omega (arith, same, passes r t q i there above))
]

-- a step takes no other entry than its own
taken_same : (c : CourseData) (step : Step) (e : Entry) (q : ℕ) → slice_get c.recording.entries step.place ≡ Some e
    → length (log_before c.recording (station_of (event_of e)) step.place) ≡ length (log_at (station_of (event_of e)) (so_far c)) → step.place ≢ q
    → was_taken c.recording (c.steps ++ step ∷ []) q ≡ was_taken c.recording c.steps q
unfolding was_taken
taken_same c step e q at lengths differ = of_entry (slice_get c.recording.entries q) refl
  where
    counts : ℕ → ℕ
    counts t = length (log_at t (so_far c))

    at_station : (x : Entry) → slice_get c.recording.entries q ≡ Some x → (station_of (event_of e) ≡ station_of (event_of x)) ⊎
        (station_of (event_of e) ≡ station_of (event_of x) → ⊥)
        → nat_lt (length (log_before c.recording (station_of (event_of x)) q)) (length (log_at (station_of (event_of x)) (so_far (with_step c step))))
        ≡ nat_lt (length (log_before c.recording (station_of (event_of x)) q)) (length (log_at (station_of (event_of x)) (so_far c)))
    at_station x is (inl same) =
        let r = c.recording in
        let t = station_of (event_of x) in
        let rank : length (log_before r t step.place) ≡ length (log_at t (so_far c)) =
        subst (λ t. length (log_before r t step.place) ≡ length (log_at t (so_far c))) same lengths in
        let more : length (log_at t (so_far (with_step c step))) ≡ suc (length (log_at t (so_far c))) =
        ap (λ h. length (log_at t h)) (after_step c step e at) ∙ ap length (log_own t (event_of e) (so_far c) same) in
        less_same (length (log_before r t q)) (length (log_at t (so_far c))) (length (log_at t (so_far (with_step c step)))) more
        (λ equal. other_rank r t step.place q (ap is_some (own_from r t step.place e at same)) (ap is_some (own_from r t q x is refl)) differ
        (equal ∙ sym rank))
    at_station x is (inr other) =
        let t = station_of (event_of x) in
        ap (λ h. nat_lt (length (log_before c.recording t q)) (length h))
        (ap (log_at t) (after_step c step e at) ∙ log_other t (event_of e) (so_far c) other)

    of_entry : (o : Option Entry) → slice_get c.recording.entries q ≡ o
        → option_map_or (λ x. nat_lt (length (log_before c.recording (station_of (event_of x)) q))
        (length (log_at (station_of (event_of x)) (sequence_of c.recording (c.steps ++ step ∷ []))))) o false
        ≡ option_map_or (λ x. nat_lt (length (log_before c.recording (station_of (event_of x)) q))
        (length (log_at (station_of (event_of x)) (sequence_of c.recording c.steps)))) o false
    of_entry None is = refl
    of_entry (Some x) is = at_station x is (cases_eq (station_of (event_of e)) (station_of (event_of x)))

-- whether the source of an entry was taken stays, where the step does not take it
source_same : (c : CourseData) (step : Step) (e : Entry) (o : Option ℕ) → slice_get c.recording.entries step.place ≡ Some e
    → length (log_before c.recording (station_of (event_of e)) step.place) ≡ length (log_at (station_of (event_of e)) (so_far c)) → (o ≡ Some step.place → ⊥)
    → is_some (if_taken c.recording (c.steps ++ step ∷ []) o) ≡ is_some (if_taken c.recording c.steps o)
source_same c step e None at lengths differ = refl
source_same c step e (Some q) at lengths differ =
    ap (λ t. is_some (if t then Some q else None)) (taken_same c step e q at lengths (λ same. differ (ap (λ i. Some i) (sym same))))

-- ---- what was never sent

-- whether a datagram was sent is whether the source of its receipt was taken
sent_by_source : (c : CourseData) → IsCourse c → (j s stamp : ℕ) (b : List ℕ) → slice_get c.recording.entries j ≡ Some (Received s stamp b)
    → cause_of c.recording.setting [] (Get s b) ≡ Some NeverSent → was_sent b (so_far c) ≡ is_some (if_taken c.recording c.steps (source_of c.recording j))
sent_by_source c course j s stamp b at alone =
    let r = c.recording in
    let u = unsent r.setting b s alone in
    sender_tells r b c.steps (if_taken r c.steps (source_of r j)) (source_first r c.steps j s stamp b u.pdu course.limits course.good at u.means)

-- A RECEIPT THAT WAITS for its source waits on, until the source is taken
pub unsent_stays : (c : CourseData) (step : Step) (e : Entry) → IsCourse c → IsCourse (with_step c step)
    → slice_get c.recording.entries step.place ≡ Some e
    → length (log_before c.recording (station_of (event_of e)) step.place) ≡ length (log_at (station_of (event_of e)) (so_far c))
    → (j : ℕ) (x : Entry) → slice_get c.recording.entries j ≡ Some x → station_of (event_of e) ≢ station_of (event_of x)
    → cause_of c.recording.setting (so_far c) (event_of x) ≡ Some NeverSent → (source_of c.recording j ≡ Some step.place → ⊥)
    → cause_of c.recording.setting (so_far (with_step c step)) (event_of x) ≡ Some NeverSent
unsent_stays c step e course next at lengths j x there apart never differ =
    cause_same c.recording.setting (so_far (with_step c step)) (so_far c) (event_of x)
    (ap (log_at (station_of (event_of x))) (after_step c step e at) ∙ log_other (station_of (event_of x)) (event_of e) (so_far c) apart) (sent x there never)
    ∙ never
  where
    bytes_of : Event → List ℕ
    bytes_of (Send s b) = b
    bytes_of (Get s b) = b
    bytes_of (Tell s n y) = []

    sent : (x : Entry) → slice_get c.recording.entries j ≡ Some x → cause_of c.recording.setting (so_far c) (event_of x) ≡ Some NeverSent
        → (s : ℕ) (b : List ℕ) → event_of x ≡ Get s b → was_sent b (so_far (with_step c step)) ≡ was_sent b (so_far c)
    sent (Sent t stamp d) there never s b is = absurd (cc)
    sent (Told t n y) there never s b is = absurd (cc)
    sent (Received t stamp d) there never s b is =
        let alone = never_alone c.recording.setting (so_far c) t d never in
        let after = sent_by_source (with_step c step) next j t stamp d there alone in
        let before = sent_by_source c course j t stamp d there alone in
        let same : d ≡ b = ap bytes_of is in
        subst (λ b. was_sent b (so_far (with_step c step)) ≡ was_sent b (so_far c)) same
        (after ∙ source_same c step e (source_of c.recording j) at lengths differ ∙ sym before)
