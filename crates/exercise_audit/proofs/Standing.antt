-- What the search knows, from step to step.
use Rattle.std.proofs.Common.{◌≡◌, ◌≢◌, ⊎_elim, inl, inr, ℕ, ◌<◌, ◌≤◌, List, [], ◌∷◌, ◌++◌, length, take, Option, Some, None, Bool, true, false, refl, sym, ap, ◌∙◌, subst, arith}
use Rattle.std.specs.Prelude.{◌⊎◌, ◌==◌, slice_get, slice_index_or, is_some, IfSome, Contains, if◌then◌else◌}
use Rattle.std.proofs.lemmas.Bool.{cases_lt, cases_eq, ne_eqb}
use Rattle.std.proofs.lemmas.List.{take-append-le, take_all, get_or_append_left, get_or_at, length_push}
use Rattle.std.proofs.lemmas.Option.{same_Some}
use Rattle.exercise_model.specs.declared.cause.Cause.{Cause}
use Rattle.exercise_model.specs.declared.cause.Cause.TheVariants.{NeverSent}
use Rattle.exercise_model.specs.Entry.{Entry}
use Rattle.exercise_model.specs.Recording.{PlainRecording, IsRecording}
use Rattle.exercise_model.specs.History.{Event, event_of, station_of, log_at, log_of}
use Rattle.exercise_model.specs.Cause.{cause_of}
use Rattle.exercise_model.specs.Place.{log_before, own_event}
use Rattle.exercise_model.specs.Run.{IsBeginning}
use Rattle.exercise_model.proofs.Offered.{entry_station, same_beginnings, log_before-beginning, log_before-next}
use Rattle.exercise_findings.specs.Source.{source_of}
use Rattle.exercise_check.specs.declared.certificate.Step.{Step}
use Rattle.exercise_check.specs.Sequence.{sequence_of}
use Rattle.exercise_check.specs.Goodness.{no_step}
use Rattle.exercise_check.specs.Course.{CourseData, IsCourse, with_step, so_far}
use Rattle.exercise_check.specs.Judging.{is_never_sent}
use Rattle.exercise_check.proofs.Offered.{own_entry, good_logs}
use Rattle.exercise_audit.specs.declared.turns.Moment.{Moment}
use Rattle.exercise_audit.specs.declared.turns.Turn.{Turn}
use Rattle.exercise_audit.specs.Next.{IsNextEntry, IsDone, IsHeld}
use Rattle.exercise_model.specs.Stamps.{stamp_of}
use Rattle.exercise_audit.specs.Time.{IsEarlier, IsEarliest, IsTimely}
use Rattle.exercise_audit.specs.Audit.{IsBlock}
use Rattle.exercise_audit.specs.Turns.{turn_of, IsFirstOf}
use Rattle.exercise_audit.specs.Waiting.{Waiting, waiting_for, Leaves}
use Rattle.exercise_audit.specs.Search.{IsNextMoment, IsHeldUp, Stands, IsSearch}
use Rattle.exercise_audit.proofs.Held.{held_done, held_cause}
use Rattle.exercise_audit.proofs.Taken.{after_step, log_other, other_stays, unsent_stays}
use Rattle.exercise_audit.proofs.Times.{one_next}

-- ---- the earliest

-- an event of the recording is at one of its stations
station_within : (r : PlainRecording) → IsRecording r → (s i : ℕ) (v : Event) → own_event r s i ≡ Some v → s < length r.setting.stations
station_within r limits s i v own =
    let o = own_entry r s i (ap is_some own) in
    subst (λ t. t < length r.setting.stations) o.2 (entry_station (length r.setting.stations) r.entries i o.0 limits.each_entry o.1)

-- A STATION WITHOUT A TURN IS HELD
pub held : (c : CourseData) (waiting : Waiting) (s : ℕ) → Stands c waiting s None → IsHeld c.recording (so_far c) s
held c waiting s = λ stands. ⊎_elim
    (λ (done : IsDone c.recording (so_far c) s). held_done c.recording (so_far c) s done)
    (λ (up : IsHeldUp c waiting s).
    held_cause c.recording (so_far c) s up.block.entry up.stands.event up.block.cause up.stands.next.own up.stands.next.place up.stands.cause)
    stands

-- the moment of a first turn is that of its station's next entry
pub first_moment : (c : CourseData) (waiting : Waiting) (turns : List (Option Moment)) (first : Turn) → IsSearch c waiting turns
    → IsFirstOf turns 0 (length turns) first → IsNextMoment c first.station first.moment
first_moment c waiting turns first search is = subst (Stands c waiting first.station) is.at (search.each first.station is.within)

-- an event that is next after good steps goes on with the log of its station
next_beginning : (c : CourseData) → IsCourse c → (s i : ℕ) (v : Event) → IsNextEntry c.recording (so_far c) s i v
    → IsBeginning (v ∷ log_at s (so_far c)) (log_of c.recording s)
next_beginning c course s i v next =
    let r = c.recording in
    let covers = good_logs r c.steps course.good s in
    let same : log_before r s i ≡ log_at s (so_far c) = same_beginnings _ _ (log_of r s) (log_before-beginning r s i) covers next.place in
    subst (λ log. IsBeginning (v ∷ log) (log_of r s)) same (log_before-next r s i v next.own)

-- THE FIRST TURN is the earliest entry that may happen
pub earliest : (c : CourseData) (waiting : Waiting) (turns : List (Option Moment)) (first : Turn) → IsSearch c waiting turns
    → IsFirstOf turns 0 (length turns) first → IsEarliest c.recording (so_far c) first.moment.entry
earliest c waiting turns first search is j may differ =
    let within : may.station < length turns =
    omega (arith, search.count, station_within c.recording search.course.limits may.station j may.event may.next.own) in
    of_turn (turn_of turns may.station) refl within (search.each may.station within)
  where
    of_turn : (o : Option Moment) → turn_of turns may.station ≡ o → may.station < length turns → Stands c waiting may.station o
        → IsEarlier c.recording first.moment.entry j
    of_turn (Some m) at within next =
        let r = c.recording in
        let same : m.entry ≡ j = one_next r (so_far c) may.station m.entry j next.event may.event next.next may.next in
        let least = is.least may.station m (omega arith) within at in
        let mine : first.moment.stamp ≡ stamp_of r first.moment.entry = (first_moment c waiting turns first search is).stamp in
        let its : m.stamp ≡ stamp_of r j = next.stamp ∙ ap (stamp_of r) same in (
          omega (arith, least.0, mine, its),
          λ equal.
              let le : first.moment.entry ≤ m.entry = least.1 (mine ∙ equal ∙ sym its) in
              ⊎_elim
              (λ (less : first.moment.entry < j). less)
              (λ (most : j ≤ first.moment.entry). let is : j ≡ first.moment.entry = omega (arith, most, le, same) in absurd (differ is))
              (cases_lt first.moment.entry j),
        )
    of_turn None at within stands =
        absurd (held c waiting may.station stands may.event (next_beginning c search.course may.station j may.event may.next) may.allowed)

-- one step more in the sequence of time
pub timely_more : (r : PlainRecording) (steps : List Step) (step : Step) → IsTimely r steps → IsEarliest r (sequence_of r steps) step.place
    → IsTimely r (steps ++ step ∷ [])
timely_more r steps step timely first k l =
    ⊎_elim
    (λ (below : k < length steps).
    subst (λ xs. IsEarliest r (sequence_of r xs) (slice_index_or (steps ++ step ∷ []) k no_step).place) (sym (take-append-le k steps (step ∷ []) (omega (arith, below))))
    (subst (λ (x : Step). IsEarliest r (sequence_of r (take k steps)) x.place) (sym (get_or_append_left steps (step ∷ []) no_step k below)) (timely k below)))
    (λ (last : length steps ≤ k).
    let same : length steps ≡ k = omega (arith, last, l, length_push steps step) in
    let whole : take k (steps ++ step ∷ []) ≡ steps = take-append-le k steps (step ∷ []) (omega (arith, same)) ∙ take_all k steps (omega (arith, same)) in
    subst (λ xs. IsEarliest r (sequence_of r xs) (slice_index_or (steps ++ step ∷ []) k no_step).place) (sym whole)
    (subst (λ (x : Step). IsEarliest r (sequence_of r steps) x.place) (sym (get_or_at steps step [] no_step k same)) first))
    (cases_lt k (length steps))

-- ---- where the other stations stand after a step

pub never_sent : (cause : Cause) → is_never_sent cause ≡ true → cause ≡ NeverSent
never_sent cause = elim cause as (λ g. is_never_sent g ≡ true → g ≡ NeverSent) [
  | NeverSent ↦ λ _. refl
  | _ ↦ λ h. absurd (cc)
]

pub other_cause : (cause : Cause) → is_never_sent cause ≡ false → cause ≢ NeverSent
other_cause cause is same = absurd (cc (sym is ∙ ap is_never_sent same))

next_on : (c : CourseData) (step : Step) (s i : ℕ) (v : Event) → log_at s (so_far (with_step c step)) ≡ log_at s (so_far c)
    → IsNextEntry c.recording (so_far c) s i v → IsNextEntry c.recording (so_far (with_step c step)) s i v
next_on c step s i v log next = record { own = next.own; place = next.place ∙ ap length (sym log) }

-- its block stays, with this cause
block_on : (c : CourseData) (step : Step) (waiting : Waiting) (s : ℕ) → log_at s (so_far (with_step c step)) ≡ log_at s (so_far c) → (up : IsHeldUp c waiting s)
    → cause_of c.recording.setting (so_far (with_step c step)) up.stands.event ≡ Some up.block.cause
    → IsBlock c.recording (so_far (with_step c step)) s up.block
block_on c step waiting s log up cause = record {
  station = up.stands.station;
  event = up.stands.event;
  next = next_on c step s up.block.entry up.stands.event log up.stands.next;
  cause = cause;
}

-- a step: it takes the next entry of its station
pub record IsStep (c : CourseData) (step : Step) (e : Entry) : Type 0 where
  pub course : IsCourse c
  pub after : IsCourse (with_step c step)
  pub at : slice_get c.recording.entries step.place ≡ Some e
  pub next : length (log_before c.recording (station_of (event_of e)) step.place) ≡ length (log_at (station_of (event_of e)) (so_far c))

-- a station that waited for another source waits for it on
waits_on : (waiting waits : Waiting) (i : ℕ) (s : ℕ) (o : Option ℕ) → Leaves waiting waits i → (o ≡ Some i → ⊥)
    → IfSome o (λ source. Contains (waiting_for waiting source) s) → IfSome o (λ source. Contains (waiting_for waits source) s)
waits_on waiting waits i s None leaves differ waited = tt
waits_on waiting waits i s (Some q) leaves differ waited =
    let apart : (if i == q then [] else waiting_for waiting q) ≡ waiting_for waiting q =
    ap (λ t. if t then [] else waiting_for waiting q) (ne_eqb i q (λ same. differ (ap (λ k. Some k) (sym same)))) in
    subst (λ (xs : List ℕ). Contains xs s) (sym (leaves q ∙ apart)) waited

-- A STATION THAT WAS HELD UP is held up still, or waited for this step
held_on : (c : CourseData) (step : Step) (e : Entry) → IsStep c step e → (waiting waits : Waiting) → Leaves waiting waits step.place → (s : ℕ)
    → station_of (event_of e) ≢ s → IsHeldUp c waiting s → IsHeldUp (with_step c step) waits s ⊎ Contains (waiting_for waiting step.place) s
held_on c step e is waiting waits leaves s apart up = by_cause (is_never_sent up.block.cause) refl
  where
    log : log_at s (so_far (with_step c step)) ≡ log_at s (so_far c)
    log = ap (log_at s) (after_step c step e is.at) ∙ log_other s (event_of e) (so_far c) apart

    station : station_of up.stands.event ≡ s
    station =
        let o = own_entry c.recording s up.block.entry (ap is_some up.stands.next.own) in
        ap station_of (same_Some _ _ (sym up.stands.next.own ∙ o.3)) ∙ o.2

    stays : is_never_sent up.block.cause ≡ true → (source_of c.recording up.block.entry ≡ Some step.place → ⊥)
        → cause_of c.recording.setting (so_far (with_step c step)) up.stands.event ≡ Some up.block.cause
    stays never differ =
        let r = c.recording in
        let o = own_entry r s up.block.entry (ap is_some up.stands.next.own) in
        let event : up.stands.event ≡ event_of o.0 = same_Some _ _ (sym up.stands.next.own ∙ o.3) in
        let cause : Some up.block.cause ≡ Some NeverSent = ap (λ g. Some g) (never_sent up.block.cause never) in
        let before : cause_of r.setting (so_far c) (event_of o.0) ≡ Some NeverSent = ap (cause_of r.setting (so_far c)) (sym event) ∙ up.stands.cause ∙ cause in
        let other : station_of (event_of e) ≢ station_of (event_of o.0) = λ same. apart (same ∙ o.2) in
        ap (cause_of r.setting (so_far (with_step c step))) event
        ∙ unsent_stays c step e is.course is.after is.at is.next up.block.entry o.0 o.1 other before differ ∙ sym cause

    by_source : is_never_sent up.block.cause ≡ true → (o : Option ℕ) → source_of c.recording up.block.entry ≡ o
        → ((o ≡ Some step.place) ⊎ (o ≡ Some step.place → ⊥)) → IsHeldUp (with_step c step) waits s ⊎ Contains (waiting_for waiting step.place) s
    by_source never o at (inl same) =
        inr (subst (λ o. IfSome o (λ source. Contains (waiting_for waiting source) s)) (at ∙ same) (up.waits (never_sent up.block.cause never)))
    by_source never o at (inr other) =
        let differ : source_of c.recording up.block.entry ≡ Some step.place → ⊥ = λ same. other (sym at ∙ same) in
        inl (record {
          block = up.block;
          stands = block_on c step waiting s log up (stays never differ);
          waits = λ cause. waits_on waiting waits step.place s (source_of c.recording up.block.entry) leaves differ (up.waits cause);
        })

    cases : (o : Option ℕ) → ((o ≡ Some step.place) ⊎ (o ≡ Some step.place → ⊥))
    cases None = inr (λ same. absurd (cc))
    cases (Some q) = ⊎_elim (λ (same : q ≡ step.place). inl (ap (λ k. Some k) same)) (λ (other : q ≡ step.place → ⊥). inr (λ same. other (same_Some _ _ same)))
        (cases_eq q step.place)

    by_cause : (t : Bool) → is_never_sent up.block.cause ≡ t → IsHeldUp (with_step c step) waits s ⊎ Contains (waiting_for waiting step.place) s
    by_cause true never = by_source never (source_of c.recording up.block.entry) refl (cases (source_of c.recording up.block.entry))
    by_cause false is =
        let other = other_cause up.block.cause is in
        let same : log_at (station_of up.stands.event) (so_far (with_step c step)) ≡ log_at (station_of up.stands.event) (so_far c) =
        subst (λ t. log_at t (so_far (with_step c step)) ≡ log_at t (so_far c)) (sym station) log in
        inl (record {
          block = up.block;
          stands = block_on c step waiting s log up
              (other_stays c.recording.setting (so_far c) (so_far (with_step c step)) up.stands.event up.block.cause other same up.stands.cause);
          waits = λ cause. absurd (other cause);
        })

-- A STATION STANDS as it stood, or waited for this step
pub stands_on : (c : CourseData) (step : Step) (e : Entry) → IsStep c step e → (waiting waits : Waiting) → Leaves waiting waits step.place → (s : ℕ)
    → station_of (event_of e) ≢ s → (o : Option Moment) → Stands c waiting s o → Stands (with_step c step) waits s o ⊎ Contains (waiting_for waiting step.place) s
stands_on c step e is waiting waits leaves s apart (Some m) next =
    let log = ap (log_at s) (after_step c step e is.at) ∙ log_other s (event_of e) (so_far c) apart in
    inl (record { event = next.event; next = next_on c step s m.entry next.event log next.next; stamp = next.stamp })
stands_on c step e is waiting waits leaves s apart None (inl done) =
    inl (inl (ap (log_at s) (after_step c step e is.at) ∙ log_other s (event_of e) (so_far c) apart ∙ done))
stands_on c step e is waiting waits leaves s apart None (inr up) = of_parts (held_on c step e is waiting waits leaves s apart up)
  where
    of_parts : IsHeldUp (with_step c step) waits s ⊎ Contains (waiting_for waiting step.place) s
        → (IsDone c.recording (so_far (with_step c step)) s ⊎ IsHeldUp (with_step c step) waits s) ⊎ Contains (waiting_for waiting step.place) s
    of_parts (inl here) = inl (inr here)
    of_parts (inr there) = inr there
