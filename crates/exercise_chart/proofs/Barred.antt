-- The bars of a good certificate have the states of their entities.
use Rattle.std.proofs.Common.{◌≡◌, ⊎_elim, ℕ, zero, suc, ◌+◌, ◌-◌, ◌<◌, ◌≤◌, List, [], ◌∷◌, ◌++◌, length, take, cond, Bool, true, false, Option, Some, None, refl, sym, ap, ◌∙◌, subst, arith}
use Rattle.std.specs.Prelude.{All, IfSome, is_some, ◌&&◌, nat_le, nat_lt, nat_eq, slice_get, slice_index_or, option_map, option_and_then, if◌then◌else◌}
use Rattle.std.specs.Option.{option_map_or}
use Rattle.std.proofs.lemmas.Bool.{and_parts, cases_lt, eqb-true, lt-ltb, le-leb, ltb-true, leb-true}
use Rattle.std.proofs.lemmas.List.{get_or-take, length-take-le, take-take}
use Rattle.std.proofs.lemmas.List.Elements.{All-nil, All-cons, All-append, All-map, All-head, All-tail}
use Rattle.std.proofs.lemmas.Option.{slice_get_within}
use Rattle.dis_records.specs.declared.entity.EntityId.{EntityId}
use Rattle.dis_records.specs.declared.entity_state.EntityState.{EntityState}
use Rattle.dis_records.specs.Entity.{entity_of}
use Rattle.exercise_model.specs.declared.station.TheConstants.{LARGEST_ENTITY}
use Rattle.exercise_model.specs.Station.{is_absent}
use Rattle.exercise_model.specs.Entry.{Entry}
use Rattle.exercise_model.specs.Recording.{PlainRecording}
use Rattle.exercise_model.specs.History.{Event, History, event_of, station_of, log_at, log_of, station_at}
use Rattle.exercise_model.specs.State.{state_after}
use Rattle.exercise_model.specs.Place.{event_at, own_event, log_before}
use Rattle.exercise_model.specs.Run.{IsBeginning}
use Rattle.exercise_model.proofs.Offered.{beginning_length, log_before-all, log_before-beginning, log_before-more, log_before-none, same_beginnings}
use Rattle.exercise_check.specs.declared.certificate.Step.{Step}
use Rattle.exercise_check.specs.Sequence.{sequence_of}
use Rattle.exercise_check.specs.Goodness.{no_step, step_cause, GoodBelow, IsGood}
use Rattle.exercise_check.proofs.Offered.{good_logs, good_step, length-steps-more}
use Rattle.exercise_review.specs.declared.life.Stretch.{Stretch}
use Rattle.exercise_review.specs.declared.span.Span.{Span}
use Rattle.exercise_review.specs.Life.{state_before, lives_of, is_after, is_no_later, covers, states_at, if_there}
use Rattle.exercise_check.specs.Links.{step_at}
use Rattle.exercise_review.specs.Span.{span_of, spans_of_next, spans_of}
use Rattle.exercise_chart.specs.declared.bar.BarSlots.{BarSlots}
use Rattle.exercise_chart.specs.declared.bar.TheConstants.{MOST_ENTITIES}
use Rattle.exercise_chart.specs.declared.point.Rows.{Rows}
use Rattle.exercise_chart.specs.declared.selection.BlockedEntry.{BlockedEntry}
use Rattle.exercise_chart.specs.Point.{step_of}
use Rattle.exercise_chart.specs.Scene.{SceneData, point_in}
use Rattle.exercise_chart.specs.Bar.{is_shown, no_slots, next_slots, bar_of, bars_in, bars_from, station_bars, bars_of}
use Rattle.exercise_chart.specs.Marks.{scene_of}
use Rattle.exercise_chart.specs.Picture.{is_done, is_ahead, state_at_step, HasState}
use Rattle.exercise_chart.proofs.Downwards.{AreNamedOnce, step_is, all_below}
use Rattle.exercise_chart.proofs.Lives.{IsOwn, HasOwnEnds, lives_own}

-- what a law says of the stretches that cover a place
abbrev pub AreStatesOf : PlainRecording → Type 0
AreStatesOf r = (s e n : ℕ) → n ≤ length r.entries → states_at n (lives_of r s e) ≡ if_there (state_before r s e n)

-- how many entries of station s stand before an entry, and how many of it the first n steps take
abbrev rank : PlainRecording → ℕ → ℕ → ℕ
rank r s i = length (log_before r s i)

abbrev taken : PlainRecording → ℕ → List Step → ℕ → ℕ
taken r s steps n = length (log_at s (sequence_of r (take n steps)))

-- ---- an entry of a station

own_within : (r : PlainRecording) (s i : ℕ) → IsOwn r s i → (e : Entry) × (slice_get r.entries i ≡ Some e) × (station_of (event_of e) ≡ s)
unfolding own_event
own_within r s i =
    elim (slice_get r.entries i) as (λ o. slice_get r.entries i ≡ o → is_some (option_and_then (λ e. event_at s (event_of e)) o) ≡ true
    → (e : Entry) × (slice_get r.entries i ≡ Some e) × (station_of (event_of e) ≡ s)) [
      | None ↦ λ _ h. absurd (cc)
      | Some e ↦ λ at. elim (nat_eq (station_of (event_of e)) s) as (λ b. nat_eq (station_of (event_of e)) s ≡ b
          → is_some (cond b (Some (event_of e)) None) ≡ true → (e : Entry) × (slice_get r.entries i ≡ Some e) × (station_of (event_of e) ≡ s)) [
            | false ↦ λ _ h. absurd (cc)
            | true ↦ λ same _. (e, at, eqb-true _ _ same)
          ] refl
    ] refl

taken_grows : (r : PlainRecording) (s : ℕ) (steps : List Step) (m d : ℕ) → m + d ≤ length steps → taken r s steps m ≤ taken r s steps (m + d)
taken_grows r s steps m zero within = let same : m + 0 ≡ m = omega arith in omega (arith, ap (taken r s steps) same)
taken_grows r s steps m (suc d) within =
    let next : m + suc d ≡ m + d + 1 = omega arith in
    omega (
      arith,
      taken_grows r s steps m d (omega (arith, within)),
      length-steps-more r s steps (m + d) (omega (arith, within)),
      ap (taken r s steps) next,
    )

taken_up_to : (r : PlainRecording) (s : ℕ) (steps : List Step) (m n : ℕ) → m ≤ n → n ≤ length steps → taken r s steps m ≤ taken r s steps n
taken_up_to r s steps m n le within =
    let from : m + (n - m) ≡ n = omega (arith, le) in
    omega (arith, taken_grows r s steps m (n - m) (omega (arith, from, within)), ap (taken r s steps) from)

-- where an entry of the station is taken
record IsTaken (r : PlainRecording) (s : ℕ) (steps : List Step) (i : ℕ) : Type 0 where
  below : step_of r steps i < length steps
  stands : rank r s i ≡ taken r s steps (step_of r steps i)
  more : taken r s steps (step_of r steps i + 1) ≡ taken r s steps (step_of r steps i) + 1

own_taken : (r : PlainRecording) (s : ℕ) (steps : List Step) (i : ℕ) → IsGood r steps → AreNamedOnce r steps → IsOwn r s i → IsTaken r s steps i
own_taken r s steps i good named own =
    let entry = own_within r s i own in
    let within : i < length r.entries = slice_get_within r.entries i entry.0 entry.1 in
    let once = named i within in
    let k : ℕ = once.at in
    let is : step_of r steps i ≡ k = step_is r steps i within once in
    let here = good_step r (take k steps) (step_at steps k) (good.good k once.within) in
    let same : Some here.0 ≡ Some entry.0 = sym here.1.at ∙ ap (slice_get r.entries) once.names ∙ entry.1 in
    let mine : station_of (event_of here.0) ≡ s = ap (λ o. option_map_or (λ e. station_of (event_of e)) o s) same ∙ entry.2 in
    let next : taken r s steps k ≡ rank r s i =
    subst (λ t. length (log_at t (sequence_of r (take k steps))) ≡ length (log_before r t (step_at steps k).place)) mine here.1.next
    ∙ ap (rank r s) once.names in
    let more : taken r s steps (k + 1) ≡ taken r s steps k + 1 =
    length-steps-more r s steps k once.within
    ∙ ap (λ (b : Bool). taken r s steps k + (if b then 1 else 0)) (ap (λ p. is_some (own_event r s p)) once.names ∙ own) in
    record {
      below = omega (arith, is, once.within);
      stands = sym next ∙ ap (taken r s steps) (sym is);
      more = ap (λ m. taken r s steps (m + 1)) is ∙ more ∙ ap (λ m. taken r s steps m + 1) (sym is);
    }

-- ---- the place in the log after a step

ranks_rise : (r : PlainRecording) (s n : ℕ) → (rank r s n ≤ rank r s (suc n)) × (rank r s (suc n) ≤ rank r s n + 1)
ranks_rise r s n =
    elim (own_event r s n) as (λ o. own_event r s n ≡ o → (rank r s n ≤ rank r s (suc n)) × (rank r s (suc n) ≤ rank r s n + 1)) [
      | None ↦ λ none. let is = more none in (omega (arith, is), omega (arith, is))
      | Some v ↦ λ some. let is = longer v some in (omega (arith, is), omega (arith, is))
    ] refl
  where
    more : own_event r s n ≡ None → rank r s (suc n) ≡ rank r s n
    more none = ap length (log_before-more r s n ∙ ap (λ o. option_map_or (λ v. v ∷ log_before r s n) o (log_before r s n)) none)

    longer : (v : Event) → own_event r s n ≡ Some v → rank r s (suc n) ≡ suc (rank r s n)
    longer v some = ap length (log_before-more r s n ∙ ap (λ o. option_map_or (λ v. v ∷ log_before r s n) o (log_before r s n)) some)

-- the first place before which so many entries of the station stand
record IsPlace (r : PlainRecording) (s m n : ℕ) : Type 0 where
  within : n ≤ length r.entries
  stands : rank r s n ≡ m
  first : (i : ℕ) → i < n → rank r s i < m

first_place : (r : PlainRecording) (s m k : ℕ) → k ≤ length r.entries → m ≤ rank r s k → (n : ℕ) × (n ≤ k) × IsPlace r s m n
first_place r s m zero within le =
    let none : rank r s 0 ≡ 0 = ap length (log_before-none r s) in
    (0, omega arith, record { within = omega arith; stands = omega (arith, none, le); first = λ i below. absurd (let no : ⊥ = omega (arith, below) in no) })
first_place r s m (suc k) within le =
    ⊎_elim
    (λ (less : rank r s k < m).
    let rise = ranks_rise r s k in (
      suc k,
      omega arith,
      record {
        within = within;
        stands = omega (arith, less, le, rise.1);
        first = λ i below. before i less (omega (arith, below));
      },
    ))
    (λ (from : m ≤ rank r s k). let found = first_place r s m k (omega (arith, within)) from in (found.0, omega (arith, found.1), found.2))
    (cases_lt (rank r s k) m)
  where
    rises : (i d : ℕ) → rank r s i ≤ rank r s (d + i)
    rises i zero = let same : 0 + i ≡ i = omega arith in omega (arith, ap (rank r s) same)
    rises i (suc d) = let same : suc d + i ≡ suc (d + i) = omega arith in omega (arith, rises i d, (ranks_rise r s (d + i)).0, ap (rank r s) same)

    before : (i : ℕ) → rank r s k < m → i ≤ k → rank r s i < m
    before i less le = let from : k - i + i ≡ k = omega (arith, le) in omega (arith, rises i (k - i), ap (rank r s) from, less)

-- the first steps are good too
good_part : (r : PlainRecording) (steps : List Step) (n : ℕ) → n ≤ length steps → GoodBelow r steps (length steps)
    → GoodBelow r (take n steps) (length (take n steps))
good_part r steps n within good k below =
    let count : length (take n steps) ≡ n = length-take-le n steps within in
    let less : k < n = omega (arith, below, count) in
    ap (λ xs. step_cause r xs (slice_index_or (take n steps) k no_step)) (take-take k n steps (omega (arith, less)))
    ∙ ap (step_cause r (take k steps)) (get_or-take n steps k no_step less)
    ∙ good k (omega (arith, less, within))

-- after a step the log of a station is what stands before that place
log_there : (r : PlainRecording) (s : ℕ) (steps : List Step) (n : ℕ) → n ≤ length steps → GoodBelow r steps (length steps)
    → (p : ℕ) × IsPlace r s (taken r s steps n) p × (log_before r s p ≡ log_at s (sequence_of r (take n steps)))
log_there r s steps n within good =
    let cover : IsBeginning (log_at s (sequence_of r (take n steps))) (log_of r s) = good_logs r (take n steps) (good_part r steps n within good) s in
    let le : taken r s steps n ≤ rank r s (length r.entries) = omega (arith, beginning_length _ _ cover, ap length (log_before-all r s)) in
    let found = first_place r s (taken r s steps n) (length r.entries) (omega arith) le in
    (found.0, found.2, same_beginnings _ _ (log_of r s) (log_before-beginning r s found.0) cover found.2.stands)

-- ---- what a stretch says after a step

-- the changes of a stretch, by their steps
abbrev done_by : PlainRecording → List Step → Option ℕ → ℕ → Bool
done_by r steps change k = option_map_or (λ i. nat_le (step_of r steps i) k) change true

abbrev ahead_of : PlainRecording → List Step → Option ℕ → ℕ → Bool
ahead_of r steps change k = option_map_or (λ i. nat_lt k (step_of r steps i)) change true

began_there : (r : PlainRecording) (s : ℕ) (steps : List Step) (k p : ℕ) (change : Option ℕ) → IsGood r steps → AreNamedOnce r steps → k < length steps
    → IsPlace r s (taken r s steps (k + 1)) p → IfSome change (IsOwn r s) → done_by r steps change k ≡ true → is_after change p ≡ true
began_there r s steps k p None good named within place own done = refl
began_there r s steps k p (Some i) good named within place own done =
    let at = own_taken r s steps i good named own in
    let le : step_of r steps i ≤ k = leb-true _ _ done in
    let less : rank r s i < rank r s p =
    omega (arith, at.stands, at.more, taken_up_to r s steps (step_of r steps i + 1) (k + 1) (omega (arith, le)) (omega (arith, within)), place.stands) in
    lt-ltb i p (⊎_elim
    (λ (below : i < p). below)
    (λ (from : p ≤ i). absurd (let rise = ranks_up r s p i from in let no : ⊥ = omega (arith, rise, less) in no))
    (cases_lt i p))
  where
    ranks_on : (r : PlainRecording) (s i d : ℕ) → rank r s i ≤ rank r s (d + i)
    ranks_on r s i zero = let same : 0 + i ≡ i = omega arith in omega (arith, ap (rank r s) same)
    ranks_on r s i (suc d) = let same : suc d + i ≡ suc (d + i) = omega arith in omega (arith, ranks_on r s i d, (ranks_rise r s (d + i)).0, ap (rank r s) same)

    ranks_up : (r : PlainRecording) (s i j : ℕ) → i ≤ j → rank r s i ≤ rank r s j
    ranks_up r s i j le = let from : j - i + i ≡ j = omega (arith, le) in omega (arith, ranks_on r s i (j - i), ap (rank r s) from)

ends_behind : (r : PlainRecording) (s : ℕ) (steps : List Step) (k p : ℕ) (change : Option ℕ) → IsGood r steps → AreNamedOnce r steps → k < length steps
    → IsPlace r s (taken r s steps (k + 1)) p → IfSome change (IsOwn r s) → ahead_of r steps change k ≡ true → is_no_later change p ≡ true
ends_behind r s steps k p None good named within place own ahead = refl
ends_behind r s steps k p (Some i) good named within place own ahead =
    let at = own_taken r s steps i good named own in
    let less : k < step_of r steps i = ltb-true _ _ ahead in
    let le : taken r s steps (k + 1) ≤ rank r s i =
    omega (arith, at.stands, taken_up_to r s steps (k + 1) (step_of r steps i) (omega (arith, less)) (omega (arith, at.below))) in
    le-leb p i (⊎_elim
    (λ (below : i < p). absurd (let before = place.first i below in let no : ⊥ = omega (arith, before, le) in no))
    (λ (from : p ≤ i). from)
    (cases_lt i p))

-- the stretches that cover a place have the state of those that the list has there
covered : (n : ℕ) (y : EntityState) (xs : List Stretch) → All (λ z. z ≡ y) (states_at n xs) → All (λ (x : Stretch). covers n x ≡ true → x.state ≡ y) xs
covered n y [] all = All-nil (λ (x : Stretch). covers n x ≡ true → x.state ≡ y)
covered n y (x ∷ xs) all =
    elim (covers n x) as (λ b. covers n x ≡ b → All (λ z. z ≡ y) (if b then x.state ∷ states_at n xs else states_at n xs)
    → All (λ (x : Stretch). covers n x ≡ true → x.state ≡ y) (x ∷ xs)) [
      | true ↦ λ _ here. All-cons (λ (x : Stretch). covers n x ≡ true → x.state ≡ y) x xs (λ _. All-head (λ z. z ≡ y) x.state (states_at n xs) here)
          (covered n y xs (All-tail (λ z. z ≡ y) x.state (states_at n xs) here))
      | false ↦ λ no here. All-cons (λ (x : Stretch). covers n x ≡ true → x.state ≡ y) x xs (λ yes. absurd (let e : false ≡ true = sym no ∙ yes in cc)) (covered n y xs here)
    ] refl all

there_alone : (y : EntityState) → All (λ z. z ≡ y) (if_there y)
there_alone y =
    elim (is_absent y) as (λ b. All (λ z. z ≡ y) (if b then [] else y ∷ [])) [
      | true ↦ All-nil (λ z. z ≡ y)
      | false ↦ All-cons (λ z. z ≡ y) y [] refl (All-nil (λ z. z ≡ y))
    ]

-- a stretch has the state that its entity has after each step that it covers
abbrev HasStateAt : PlainRecording → List Step → (s e : ℕ) → Stretch → Type 0
HasStateAt r steps s e x = (k : ℕ) → k < length steps → done_by r steps x.from k ≡ true → ahead_of r steps x.until k ≡ true → state_at_step r steps s e k ≡ x.state

stretches_said : (r : PlainRecording) (steps : List Step) (s e : ℕ) → IsGood r steps → AreNamedOnce r steps → AreStatesOf r
    → All (HasStateAt r steps s e) (lives_of r s e)
stretches_said r steps s e good named states = each (lives_of r s e) (lives_own r s e) (λ n within. subst (All (λ z. z ≡ state_before r s e n)) (sym (states s e n within)) (there_alone (state_before r s e n)))
  where
    one : (x : Stretch) → HasOwnEnds r s x → ((n : ℕ) → n ≤ length r.entries → covers n x ≡ true → x.state ≡ state_before r s e n) → HasStateAt r steps s e x
    one x own at k within done ahead =
        let there = log_there r s steps (k + 1) (omega (arith, within)) good.good in
        let p : ℕ = there.0 in
        let after : is_after x.from p ≡ true = began_there r s steps k p x.from good named within there.1 own.from done in
        let before : is_no_later x.until p ≡ true = ends_behind r s steps k p x.until good named within there.1 own.until ahead in
        let covering : covers p x ≡ true = ap (λ b. b && is_no_later x.until p) after ∙ before in
        ap (λ (h : History). state_after r.setting.exercise (station_at r s) h e) (sym there.2) ∙ sym (at p there.1.within covering)

    each : (xs : List Stretch) → All (HasOwnEnds r s) xs → ((n : ℕ) → n ≤ length r.entries → All (λ z. z ≡ state_before r s e n) (states_at n xs))
        → All (HasStateAt r steps s e) xs
    each [] own said = All-nil (HasStateAt r steps s e)
    each (x ∷ xs) own said =
        All-cons (HasStateAt r steps s e) x xs
        (one x (All-head (HasOwnEnds r s) x xs own)
        (λ n within. All-head (λ (z : Stretch). covers n z ≡ true → z.state ≡ state_before r s e n) x xs (covered n (state_before r s e n) (x ∷ xs) (said n within))))
        (each xs (All-tail (HasOwnEnds r s) x xs own) (λ n within. rest n (said n within)))
      where
        rest : (n : ℕ) → All (λ z. z ≡ state_before r s e n) (states_at n (x ∷ xs)) → All (λ z. z ≡ state_before r s e n) (states_at n xs)
        rest n =
            elim (covers n x) as (λ b. All (λ z. z ≡ state_before r s e n) (if b then x.state ∷ states_at n xs else states_at n xs)
            → All (λ z. z ≡ state_before r s e n) (states_at n xs)) [
              | true ↦ λ all. All-tail (λ z. z ≡ state_before r s e n) x.state (states_at n xs) all
              | false ↦ λ all. all
            ]

-- ---- bars

-- what a span says, as its bar would
abbrev SpanSaid : PlainRecording → List Step → (s : ℕ) → Span → Type 0
SpanSaid r steps s x = (k : ℕ) → k < length steps → done_by r steps x.from k ≡ true → ahead_of r steps x.to k ≡ true
    → state_at_step r steps s x.entity.entity k ≡ x.state

done_is : (c : SceneData) (change : Option ℕ) (k : ℕ) → is_done (option_map (point_in c) change) k ≡ done_by c.recording c.steps change k
done_is c None k = refl
done_is c (Some i) k = refl

ahead_is : (c : SceneData) (change : Option ℕ) (k : ℕ) → is_ahead (option_map (point_in c) change) k ≡ ahead_of c.recording c.steps change k
ahead_is c None k = refl
ahead_is c (Some i) k = refl

bar_said : (r : PlainRecording) (steps : List Step) (w : Rows) (chosen : List EntityId) (blocked : List BlockedEntry) (s slot : ℕ) (x : Span) → SpanSaid r steps s x → HasState r steps (bar_of (scene_of r steps w chosen blocked) s slot x)
bar_said r steps w chosen blocked s slot x said = record {
  after = λ k within covering.
      let parts = and_parts (is_done (option_map (point_in (scene_of r steps w chosen blocked)) x.from) k) _ covering in
      said k within (sym (done_is (scene_of r steps w chosen blocked) x.from k) ∙ parts.0) (sym (ahead_is (scene_of r steps w chosen blocked) x.to k) ∙ parts.1);
}

bars_said : (r : PlainRecording) (steps : List Step) (w : Rows) (chosen : List EntityId) (blocked : List BlockedEntry) (s : ℕ) (l : BarSlots) (xs : List Span) → All (SpanSaid r steps s) xs
    → All (HasState r steps) (bars_from (scene_of r steps w chosen blocked) s l xs)
unfolding bars_from
bars_said r steps w chosen blocked s l [] said = All-nil (HasState r steps)
bars_said r steps w chosen blocked s l (x ∷ xs) said =
    elim (is_shown c x) as (λ b. All (HasState r steps) (if b then bars_in c s (next_slots l x.entity.entity) x ++ bars_from c s (next_slots l x.entity.entity) xs else bars_from c s l xs)) [
      | false ↦ bars_said r steps w chosen blocked s l xs (All-tail (SpanSaid r steps s) x xs said)
      | true ↦ All-append (HasState r steps) (bars_in c s (next_slots l x.entity.entity) x) (bars_from c s (next_slots l x.entity.entity) xs)
          (one (next_slots l x.entity.entity)) (bars_said r steps w chosen blocked s (next_slots l x.entity.entity) xs (All-tail (SpanSaid r steps s) x xs said))
    ]
  where
    c : SceneData
    c = scene_of r steps w chosen blocked

    one : (m : BarSlots) → All (HasState r steps) (bars_in c s m x)
    one m =
        elim (nat_le m.used MOST_ENTITIES) as (λ b. All (HasState r steps) (if b then bar_of c s (m.used - 1) x ∷ [] else [])) [
          | true ↦ All-cons (HasState r steps) (bar_of c s (m.used - 1) x) [] (bar_said r steps w chosen blocked s (m.used - 1) x (All-head (SpanSaid r steps s) x xs said)) (All-nil (HasState r steps))
          | false ↦ All-nil (HasState r steps)
        ]

spans_said : (r : PlainRecording) (steps : List Step) (s : ℕ) → IsGood r steps → AreNamedOnce r steps → AreStatesOf r → All (SpanSaid r steps s) (spans_of r s)
unfolding spans_of
spans_said r steps s good named states =
    all_below (SpanSaid r steps s) (spans_of_next r s) LARGEST_ENTITY (λ n _.
    let id : EntityId = entity_of (station_at r s).address (n + 1) in
    All-map (SpanSaid r steps s) (span_of r id) (lives_of r s (n + 1)) (stretches_said r steps s (n + 1) good named states))

-- THE BARS HAVE THE STATES of their entities
pub bars_have_states : (r : PlainRecording) (steps : List Step) (w : Rows) (chosen : List EntityId) (blocked : List BlockedEntry) → IsGood r steps → AreNamedOnce r steps → AreStatesOf r
    → All (HasState r steps) (bars_of (scene_of r steps w chosen blocked))
unfolding bars_of station_bars
bars_have_states r steps w chosen blocked good named states =
    all_below (HasState r steps) (station_bars (scene_of r steps w chosen blocked)) (length r.setting.stations)
    (λ s _. bars_said r steps w chosen blocked s no_slots (spans_of r s) (spans_said r steps s good named states))
