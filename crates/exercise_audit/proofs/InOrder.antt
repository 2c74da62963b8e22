-- Entries that are taken as the recording has them, where stamps never fall.
use Rattle.std.proofs.Common.{◌≡◌, ⊎_elim, ℕ, zero, suc, ◌+◌, ◌<◌, ◌≤◌, [], ◌∷◌, length, Some, refl, sym, ap, ◌∙◌, subst, arith}
use Rattle.std.specs.Prelude.{slice_get, is_some, nat_lt, IfSome, Bool, true, false, None, if◌then◌else◌}
use Rattle.std.specs.Option.{option_map_or}
use Rattle.std.proofs.Math.Numerals.{add-one}
use Rattle.std.proofs.lemmas.Bool.{cases_lt, eq-eqb, ltb-true, ltb-false}
use Rattle.std.proofs.lemmas.List.{length_push}
use Rattle.std.proofs.lemmas.Option.{same_Some, slice_get_within, slice_get_past}
use Rattle.exercise_model.specs.declared.cause.Cause.{Cause}
use Rattle.exercise_model.specs.Entry.{Entry}
use Rattle.exercise_model.specs.Recording.{PlainRecording}
use Rattle.exercise_model.specs.History.{event_of, station_of, past, log_at}
use Rattle.exercise_model.specs.Cause.{IsAllowed}
use Rattle.exercise_model.specs.Place.{log_before}
use Rattle.exercise_model.specs.Stamps.{stamp_past, stamp_before, stamp_of}
use Rattle.exercise_check.specs.declared.certificate.Step.{Step}
use Rattle.exercise_check.specs.declared.course.Progress.TheVariants.{Taken, Barred}
use Rattle.exercise_check.specs.Sequence.{is_next, sequence_of}
use Rattle.exercise_check.specs.Course.{CourseData, IsCourse, IsNext, GoesOn, with_step, so_far}
use Rattle.exercise_check.specs.Goodness.{IsGood}
use Rattle.exercise_check.proofs.Offered.{from_entry, entry_within, good_explains, own_entry, sequence_of-none}
use Rattle.exercise_audit.specs.Next.{IsNextEntry, IsHeld}
use Rattle.exercise_audit.specs.Search.{TookAsWritten}
use Rattle.exercise_audit.specs.Time.{IsEarliest, IsTimely, StampsNeverFall}
use Rattle.exercise_audit.specs.Written.{written_below}
use Rattle.exercise_audit.proofs.Held.{held_done}
use Rattle.exercise_audit.proofs.Standing.{timely_more}
use Rattle.exercise_audit.proofs.Taken.{after_step}
use Rattle.exercise_audit.proofs.Times.{not_below}
use Rattle.exercise_audit.proofs.Written.{more}

-- ---- stamps

-- the nearest stamps before the entries up to n never fall
pub record RisesBelow (r : PlainRecording) (n : ℕ) : Type 0 where
  pub each : (i j : ℕ) → i ≤ j → j ≤ n → stamp_before r.entries i ≤ stamp_before r.entries j

pub rises_none : (r : PlainRecording) → RisesBelow r 0
rises_none r = record { each = λ i j l m. let same : i ≡ j = omega (arith, l, m) in subst (λ k. stamp_before r.entries i ≤ stamp_before r.entries k) same (omega arith) }

pub past_here : (r : PlainRecording) (n last : ℕ) (e : Entry) → slice_get r.entries n ≡ Some e → last ≡ stamp_before r.entries n
    → stamp_past last e ≡ stamp_before r.entries (n + 1)
unfolding stamp_before
past_here r n last e at is =
    ap (λ x. stamp_past x e) is ∙ sym (ap (λ o. option_map_or (stamp_past (stamp_before r.entries n)) o (stamp_before r.entries n)) at)
    ∙ ap (stamp_before r.entries) (sym (add-one n))

pub rises_more : (r : PlainRecording) (n : ℕ) → RisesBelow r n → stamp_before r.entries n ≤ stamp_before r.entries (n + 1) → RisesBelow r (n + 1)
rises_more r n before rises = record {
  each = λ i j l m. ⊎_elim
      (λ (below : j < n + 1). before.each i j l (omega (arith, below)))
      (λ (last : n + 1 ≤ j).
      let here : n + 1 ≡ j = omega (arith, last, m) in
      subst (λ k. stamp_before r.entries i ≤ stamp_before r.entries k) here
      (⊎_elim
      (λ (under : i < n + 1). omega (arith, before.each i n (omega (arith, under)) (omega arith), rises))
      (λ (over : n + 1 ≤ i).
      let same : n + 1 ≡ i = omega (arith, over, l, here) in
      subst (λ k. stamp_before r.entries k ≤ stamp_before r.entries (n + 1)) same (omega arith))
      (cases_lt i (n + 1))))
      (cases_lt j (n + 1));
}

pub never_falls : (r : PlainRecording) → RisesBelow r (length r.entries) → StampsNeverFall r
never_falls r rises i j l m = rises.each (suc i) (suc j) (omega (arith, l)) (omega (arith, m))

-- where they fall at entry n, they are not such that never fall
pub falls : (r : PlainRecording) (n : ℕ) → n < length r.entries → stamp_before r.entries (n + 1) < stamp_before r.entries n → StampsNeverFall r → ⊥
unfolding stamp_before
falls r zero within fall never = absurd (omega (arith, fall))
falls r (suc n) within fall never =
    let rises : stamp_of r n ≤ stamp_of r (suc n) = never n (suc n) (omega arith) within in
    let here : stamp_before r.entries (suc n + 1) ≡ stamp_of r (suc n) = ap (stamp_before r.entries) (add-one (suc n)) in
    omega (arith, rises, fall, here)

-- ---- the stamp of an entry where it does not fall, and where it does

pub stamp_none : (r : PlainRecording) → 0 ≡ stamp_before r.entries 0
unfolding stamp_before
stamp_none r = refl

-- the stamp, or none where it is less than the last
pub record IsRisen (last stamp found : ℕ) : Type 0 where
  pub is : found ≡ stamp
  pub rises : last ≤ found

pub risen_is : (last stamp found : ℕ) → (if nat_lt stamp last then None else Some stamp) ≡ Some found → IsRisen last stamp found
risen_is last stamp found is = by (nat_lt stamp last) refl is
  where
    by : (t : Bool) → nat_lt stamp last ≡ t → (if t then None else Some stamp) ≡ Some found → IsRisen last stamp found
    by true less none = absurd (cc)
    by false not some =
        let same : stamp ≡ found = same_Some stamp found some in
        record { is = sym same; rises = omega (arith, same, ltb-false stamp last not) }

pub fallen_is : (last stamp : ℕ) → (if nat_lt stamp last then None else Some stamp) ≡ None → stamp < last
fallen_is last stamp is = by (nat_lt stamp last) refl is
  where
    by : (t : Bool) → nat_lt stamp last ≡ t → (if t then None else Some stamp) ≡ None → stamp < last
    by true less none = ltb-true stamp last less
    by false not some = absurd (cc)

-- ---- the steps

-- the entries below k were taken, as the recording has them
pub record AreTaken (c : CourseData) (k : ℕ) : Type 0 where
  pub count : length c.steps ≡ k
  pub course : IsCourse c
  pub timely : IsTimely c.recording c.steps
  pub history : so_far c ≡ written_below c.recording k

pub none_taken : (c : CourseData) → IsCourse c → c.steps ≡ [] → AreTaken c 0
unfolding past
none_taken c course none = record {
  count = ap length none;
  course = course;
  timely = λ k l. absurd (omega (arith, l, ap length none));
  history = ap (sequence_of c.recording) none ∙ sequence_of-none c.recording;
}

-- then entry k is its station's next
pub next_is : (c : CourseData) (k : ℕ) → AreTaken c k → k < length c.recording.entries → IsNext c k
unfolding is_next log_before
next_is c k taken within =
    let r = c.recording in
    let e = entry_within r.entries k within in
    let s = station_of (event_of e.0) in
    let lengths : length (log_at s (so_far c)) ≡ length (log_before r s k) = ap (λ h. length (log_at s h)) taken.history in
    subst (λ x. IfSome x (λ e. is_next r c.steps k (event_of e) ≡ true)) (sym e.1) (eq-eqb _ _ lengths)

-- and the earliest of those that may happen, where stamps never fall
earliest_is : (c : CourseData) (k : ℕ) → AreTaken c k → StampsNeverFall c.recording → IsEarliest c.recording (so_far c) k
earliest_is c k taken rising j may differ =
    let r = c.recording in
    let o = own_entry r may.station j (ap is_some may.next.own) in
    let next = subst (λ h. IsNextEntry r h may.station j may.event) taken.history may.next in
    let least : k ≤ j = not_below r k may.station j may.event next in
    let less : k < j = ⊎_elim
    (λ (before : k < j). before)
    (λ (most : j ≤ k). let same : j ≡ k = omega (arith, most, least) in absurd (differ same))
    (cases_lt k j) in
    (rising k j less (slice_get_within r.entries j o.0 o.1), λ _. less)

-- ENTRY k IS TAKEN
pub taken_more : (old new : CourseData) (k link : ℕ) → AreTaken old k → StampsNeverFall old.recording → k < length old.recording.entries → IsCourse new
    → IfSome (slice_get old.recording.entries k) (GoesOn old new k (Taken link)) → (new.recording ≡ old.recording) × AreTaken new (k + 1)
taken_more old new k link taken rising within course goes =
    let r = old.recording in
    let e = entry_within r.entries k within in
    let takes = from_entry _ e.0 (GoesOn old new k (Taken link)) e.1 goes in
    let step : Step = record { place = k; link = link } in
    let stepped : AreTaken (with_step old step) (k + 1) = record {
      count = length_push old.steps step ∙ ap (λ n. n + 1) taken.count;
      course = subst IsCourse takes.new_is course;
      timely = timely_more r old.steps step taken.timely (earliest_is old k taken rising);
      history = after_step old step e.0 e.1 ∙ ap (λ h. event_of e.0 ∷ h) taken.history ∙ sym (more r k e.0 e.1);
    } in
    (ap (λ (c : CourseData). c.recording) takes.new_is, subst (λ c. AreTaken c (k + 1)) (sym takes.new_is) stepped)

-- the run ends where entry k may not happen, and nothing changes then
pub ended : (old new : CourseData) (k : ℕ) (cause : Cause) → AreTaken old k → k < length old.recording.entries
    → IfSome (slice_get old.recording.entries k) (GoesOn old new k (Barred cause)) → (new ≡ old) × TookAsWritten new
ended old new k cause taken within goes =
    let r = old.recording in
    let e = entry_within r.entries k within in
    let bars = from_entry _ e.0 (GoesOn old new k (Barred cause)) e.1 goes in
    let not : IsAllowed r.setting (so_far old) (event_of e.0) → ⊥ = λ allowed. absurd (cc (allowed, bars.cause_is)) in
    let stops : IfSome (slice_get r.entries k) (λ e. IsAllowed r.setting (so_far old) (event_of e) → ⊥) =
    subst (λ x. IfSome x (λ e. IsAllowed r.setting (so_far old) (event_of e) → ⊥)) (sym e.1) not in (
      bars.new_is,
      subst TookAsWritten (sym bars.new_is) (record {
        course = taken.course;
        timely = taken.timely;
        history = taken.history ∙ ap (written_below r) (sym taken.count);
        stops = subst (λ n. IfSome (slice_get r.entries n) (λ e. IsAllowed r.setting (so_far old) (event_of e) → ⊥)) (sym taken.count) stops;
      }),
    )

-- or where there is no entry more
pub all_taken : (c : CourseData) (k : ℕ) → AreTaken c k → length c.recording.entries ≤ k → TookAsWritten c
all_taken c k taken all =
    let r = c.recording in
    let none : slice_get r.entries (length c.steps) ≡ None = slice_get_past r.entries (length c.steps) (omega (arith, all, taken.count)) in
    record {
      course = taken.course;
      timely = taken.timely;
      history = taken.history ∙ ap (written_below r) (sym taken.count);
      stops = subst (λ x. IfSome x (λ e. IsAllowed r.setting (so_far c) (event_of e) → ⊥)) (sym none) tt;
    }

-- ---- at the end

-- WHERE ALL ENTRIES ARE TAKEN each station is held
pub all_done : (c : CourseData) → IsCourse c → length c.steps ≡ length c.recording.entries → (s : ℕ) → IsHeld c.recording (so_far c) s
all_done c course count s =
    let good : IsGood c.recording c.steps = record { count = count; good = course.good } in
    held_done c.recording (so_far c) s ((good_explains c.recording course.limits c.steps good).logs s)
