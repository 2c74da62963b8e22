-- Where stations wait on one another in a ring, no run explains the recording.
use Rattle.std.proofs.Common.{◌≡◌, ⊎_elim, ℕ, zero, suc, ◌<◌, ◌≤◌, List, [], ◌∷◌, ◌++◌, length, drop, cond, Option, Some, None, true, false, refl, sym, ap, ◌∙◌, subst, arith, length-append, append_assoc}
use Rattle.std.specs.Prelude.{nat_eq, nat_lt, option_map, option_and_then}
use Rattle.std.specs.Option.{option_map_or}
use Rattle.std.proofs.lemmas.List.{drop_at, drop-append-le}
use Rattle.std.proofs.lemmas.Bool.{cases_lt, eqb-true}
use Rattle.std.proofs.lemmas.Option.{same_Some}
use Rattle.exercise_model.specs.Entry.{Received}
use Rattle.exercise_model.specs.Recording.{PlainRecording, IsRecording}
use Rattle.exercise_model.specs.History.{Event, Send, Get, Tell, History, event_of, station_of, log_at}
use Rattle.exercise_model.specs.Cause.{sends}
use Rattle.exercise_model.specs.Place.{own_event, log_before, first_below}
use Rattle.exercise_model.specs.Run.{Explains, IsBeginning, Contains, Represents}
use Rattle.exercise_model.specs.Alike.{HasPlace}
use Rattle.exercise_model.proofs.Offered.{always_as_said, explained_holds, first_found, log_before-all, log_before-more, sender_found}
use Rattle.exercise_findings.specs.Source.{sends_here, first_send}
use Rattle.exercise_findings.proofs.Offered.{bytes_same}
use Rattle.exercise_model.specs.declared.station.TheConstants.{MOST_STATIONS}
use Rattle.exercise_conflict.specs.declared.waits.Wait.{Wait}
use Rattle.exercise_conflict.specs.Waits.{IsWait}
use Rattle.exercise_conflict.specs.Cycles.{wait_at, waiting_path, cycle_at, AreWaits}
use Rattle.exercise_conflict.proofs.Places.{in_log, own_here}
use Rattle.exercise_conflict.proofs.Blocks.{own_entry}
use Rattle.exercise_conflict.proofs.Lacking.{none_passes, contains_on, in_own_log, recorded_where_found}
use Rattle.exercise_conflict.proofs.Waiting.{has_source, source_sends}

-- ---- histories of one run

-- of two beginnings the shorter one is one of the longer one
shorter_beginning : (h k whole : History) → IsBeginning h whole → IsBeginning k whole → length h ≤ length k → IsBeginning h k
shorter_beginning h k whole p q le =
    let within : length q.0 ≤ length p.0 = omega (arith, ap length p.1, ap length q.1, length-append p.0 h, length-append q.0 k) in
    (drop (length q.0) p.0, sym (drop-append-le (length q.0) p.0 h within) ∙ ap (drop (length q.0)) (p.1 ∙ sym q.1) ∙ drop_at q.0 k (length q.0) refl)

before_it : (v : Event) (h whole : History) → IsBeginning (v ∷ h) whole → IsBeginning h whole
before_it v h whole p = (p.0 ++ v ∷ [], append_assoc p.0 (v ∷ []) h ∙ p.1)

-- what stands in a history stands in a longer one of the same run, and its station did more there
did_more : (h c d : History) (v w : Event) → Contains h c v → Contains h d w → length c < length d
    → length (log_at (station_of v) c) < length (log_at (station_of v) d)
did_more h c d v w one other less =
    let s : ℕ = station_of v in
    let part = in_own_log d c v (shorter_beginning (v ∷ c) d h one (before_it w d h other) (omega (arith, less))) in
    omega (arith, ap length part.1, length-append part.0 (v ∷ log_at s c))

-- entries of a station rise with those before them
rank_grows : (r : PlainRecording) (t i j : ℕ) → i ≤ j → length (log_before r t i) ≤ length (log_before r t j)
rank_grows r t i zero le = let same : i ≡ 0 = omega (arith, le) in omega (arith, ap (λ k. length (log_before r t k)) same)
rank_grows r t i (suc j) le =
    ⊎_elim
    (λ (less : i < suc j). omega (arith, rank_grows r t i j (omega (arith, less)), ap length (log_before-more r t j), one_more (own_event r t j)))
    (λ (most : suc j ≤ i). let same : i ≡ suc j = omega (arith, le, most) in omega (arith, ap (λ k. length (log_before r t k)) same))
    (cases_lt i (suc j))
  where
    one_more : (o : Option Event) → length (log_before r t j) ≤ length (option_map_or (λ v. v ∷ log_before r t j) o (log_before r t j))
    one_more None = omega arith
    one_more (Some v) = omega arith

-- ---- where what is received was sent

-- in the run h, before the history `before`, the station of a wait sent what it waits for; as many entries of that station stand before `sent` as it did before then, or fewer
record WasWaited (r : PlainRecording) (h before : History) (w : Wait) (b : List ℕ) : Type 0 where
  pub earlier : History
  pub within : Contains h earlier (Send w.on b)
  pub less : length earlier < length before
  pub rank : length (log_before r w.on w.sent) ≤ length (log_at w.on earlier)

contains_less : (h c : History) (v : Event) → Contains h c v → length c < length h
contains_less h c v within = omega (arith, ap length within.1, length-append within.0 (v ∷ c))

abbrev bytes_in : Event → List ℕ
bytes_in (Send s b) = b
bytes_in (Get s b) = b
bytes_in (Tell s e y) = []

was_waited : (r : PlainRecording) (h before : History) (w : Wait) → IsRecording r → Explains r h → (is : IsWait r w)
    → Contains h before (Get w.station is.bytes) → WasWaited r h before w is.bytes
unfolding first_send
was_waited r h before w limits explains is within =
    let source = has_source r w.entry w.sent is.source in
    let same = same_Some (Received source.station source.stamp source.bytes) (Received w.station is.stamp is.bytes) (sym source.got ∙ is.got) in
    let event : Get source.station source.bytes ≡ Get w.station is.bytes = ap event_of same in
    let got = subst (Contains h before) (sym event) within in
    let sent = (explained_holds r h limits explains).received before source.station source.bytes source.pdu got source.meant
    (recorded_where_found r source.pdu source.sender source.from) in
    let t : ℕ = source.sender in
    let by : sent.station ≡ t = same_Some sent.station t (sym (sender_found r limits source.pdu sent.station sent.recorded sent.own) ∙ source.from) in
    let at = own_entry r t w.sent (Send t source.bytes) (source_sends r source.bytes t w.sent source.first) in
    let there = own_entry r w.on w.sent (Send w.on is.bytes) is.sends in
    let sends_same : Send t source.bytes ≡ Send w.on is.bytes = sym at.is ∙ ap event_of (same_Some at.entry there.entry (sym at.at ∙ there.at)) ∙ there.is in
    let here : Contains before sent.earlier (Send w.on is.bytes) =
    subst (Contains before sent.earlier) (ap (λ k. Send k source.bytes) by ∙ sends_same) sent.sent in
    let whole = contains_on h before sent.earlier (Send w.on is.bytes) (Get w.station is.bytes) within here in
    let part = in_own_log h sent.earlier (Send w.on is.bytes) whole in
    let entry = in_log r w.on (length r.entries) (log_at w.on sent.earlier) (Send w.on is.bytes) part.0 (part.1 ∙ explains.logs w.on ∙ sym (log_before-all r w.on)) in
    let on : t ≡ w.on = ap station_of sends_same in
    let bytes : source.bytes ≡ is.bytes = ap bytes_in sends_same in
    let first : first_below (sends_here r is.bytes w.on) (length r.entries) ≡ Some w.sent =
    ap (λ k. first_below (sends_here r is.bytes k) (length r.entries)) (sym on) ∙ ap (λ c. first_below (sends_here r c t) (length r.entries)) (sym bytes) ∙ source.first in
    let passes : sends_here r is.bytes w.on entry.0 ≡ true = ap (λ o. option_map_or (sends is.bytes) o false) entry.2.own ∙ bytes_same is.bytes in
    let order : w.sent ≤ entry.0 =
    ⊎_elim (λ (less : entry.0 < w.sent). absurd (none_passes (sends_here r is.bytes w.on) w.sent entry.0
    (first_found (sends_here r is.bytes w.on) (length r.entries) w.sent first).none less passes))
    (λ (most : w.sent ≤ entry.0). most) (cases_lt entry.0 w.sent) in
    record {
      earlier = sent.earlier;
      within = whole;
      less = contains_less before sent.earlier (Send w.on is.bytes) here;
      rank = omega (arith, rank_grows r w.on w.sent entry.0 order, ap length entry.2.log);
    }

-- ---- around the ring

-- entry i has its place in the run h, after less than so much
record IsPlacedBelow (r : PlainRecording) (h : History) (i : ℕ) (most : ℕ) : Type 0 where
  pub event : Event
  pub own : own_event r (station_of event) i ≡ Some event
  pub place : HasPlace r h i event
  pub less : length place.before < most

got_own : (r : PlainRecording) (w : Wait) (is : IsWait r w) → own_event r w.station w.entry ≡ Some (Get w.station is.bytes)
got_own r w is = own_here r w.entry (Received w.station is.stamp is.bytes) is.got

-- what a station waits for has its place before it has its own
next_before : (r : PlainRecording) (h : History) (w : Wait) (most : ℕ) → IsRecording r → Explains r h → IsWait r w
    → (placed : IsPlacedBelow r h w.entry most) → IsPlacedBelow r h w.next (length placed.place.before)
next_before r h w most limits explains is placed =
    let at = own_entry r (station_of placed.event) w.entry placed.event placed.own in
    let there = own_entry r w.station w.entry (Get w.station is.bytes) (got_own r w is) in
    let event : placed.event ≡ Get w.station is.bytes = sym at.is ∙ ap event_of (same_Some at.entry there.entry (sym at.at ∙ there.at)) ∙ there.is in
    let before : History = placed.place.before in
    let sent = was_waited r h before w limits explains is (subst (Contains h before) event placed.place.within) in
    let next = own_entry r w.on w.next is.event is.next in
    let own : own_event r (station_of is.event) w.next ≡ Some is.event = subst (λ k. own_event r k w.next ≡ Some is.event) (sym next.station) is.next in
    let place = (always_as_said r h explains).places w.next is.event own in
    let log : log_at w.on place.before ≡ log_before r w.on w.next = subst (λ k. log_at k place.before ≡ log_before r k w.next) next.station place.log in
    let rank : length (log_at w.on place.before) ≤ length (log_at w.on sent.earlier) =
    omega (arith, ap length log, rank_grows r w.on w.next w.sent is.earlier, sent.rank) in
    record {
      event = is.event;
      own = own;
      place = place;
      less = ⊎_elim
          (λ (longer : length sent.earlier < length place.before). absurd (let more = did_more h sent.earlier place.before (Send w.on is.bytes) is.event sent.within place.within longer in
          omega (arith, more, rank)))
          (λ (shorter : length place.before ≤ length sent.earlier). omega (arith, shorter, sent.less))
          (cases_lt (length sent.earlier) (length place.before));
    }

still_below : (r : PlainRecording) (h : History) (i most more : ℕ) → most ≤ more → IsPlacedBelow r h i most → IsPlacedBelow r h i more
still_below r h i most more le placed =
    record { event = placed.event; own = placed.own; place = placed.place; less = omega (arith, placed.less, le) }

-- what holds of the entry of a station that waits
AtEntry : PlainRecording → History → List Wait → ℕ → ℕ → Type 0
AtEntry r h waits most t = (u : Wait) → wait_at waits t ≡ Some u → IsPlacedBelow r h u.entry most

-- the way leads back to its station, ever earlier in the run
way_leads : (r : PlainRecording) (h : History) (waits : List Wait) (s most : ℕ) → IsRecording r → Explains r h → AreWaits r waits → (n t : ℕ) (way : List ℕ)
    → waiting_path waits s t n ≡ Some way → AtEntry r h waits most t → AtEntry r h waits most s
unfolding waiting_path AtEntry
way_leads r h waits s most limits explains hold zero t way is at = absurd (cc)
way_leads r h waits s most limits explains hold (suc n) t way is at =
    elim (nat_eq t s) as (λ q. nat_eq t s ≡ q
    → cond q (Some []) (cond (nat_lt s t) (option_and_then (λ w. option_map (λ way. t ∷ way) (waiting_path waits s w.on n)) (wait_at waits t)) None) ≡ Some way
    → AtEntry r h waits most s) [
      | true ↦ λ own _. subst (AtEntry r h waits most) (eqb-true t s own) at
      | false ↦ λ _. elim (nat_lt s t) as (λ q. cond q (option_and_then (λ w. option_map (λ way. t ∷ way) (waiting_path waits s w.on n)) (wait_at waits t)) None ≡ Some way
          → AtEntry r h waits most s) [
            | false ↦ λ e. absurd (cc)
            | true ↦ elim (wait_at waits t) as (λ o. wait_at waits t ≡ o → option_and_then (λ w. option_map (λ way. t ∷ way) (waiting_path waits s w.on n)) o ≡ Some way
                → AtEntry r h waits most s) [
                  | None ↦ λ _ e. absurd (cc)
                  | Some w ↦ λ waits_here. elim (waiting_path waits s w.on n) as (λ o. waiting_path waits s w.on n ≡ o → option_map (λ way. t ∷ way) o ≡ Some way → AtEntry r h waits most s) [
                    | None ↦ λ _ e. absurd (cc)
                    | Some rest ↦ λ back _. way_leads r h waits s most limits explains hold n w.on rest back (onward w waits_here)
                  ] refl
                ] refl
          ]
    ] refl is
  where
    onward : (w : Wait) → wait_at waits t ≡ Some w → AtEntry r h waits most w.on
    onward w here u there =
        let placed = at w here in
        let next = next_before r h w most limits explains (hold.each t w here) placed in
        subst (λ i. IsPlacedBelow r h i most) (hold.on t w u here there) (still_below r h w.next (length placed.place.before) most (omega (arith, placed.less)) next)

-- WHERE STATIONS WAIT ON ONE ANOTHER IN A RING, NO RUN EXPLAINS
pub rings_block : (r : PlainRecording) (waits : List Wait) (s : ℕ) (cycle : List ℕ) (h : History) → IsRecording r → AreWaits r waits
    → cycle_at waits s ≡ Some cycle → Explains r h → ⊥
unfolding cycle_at AtEntry
rings_block r waits s cycle h limits hold is explains =
    elim (wait_at waits s) as (λ o. wait_at waits s ≡ o → option_and_then (λ w. option_map (λ way. s ∷ way) (waiting_path waits s w.on MOST_STATIONS)) o ≡ Some cycle → ⊥) [
      | None ↦ λ _ e. absurd (cc)
      | Some w ↦ λ here. elim (waiting_path waits s w.on MOST_STATIONS) as (λ o. waiting_path waits s w.on MOST_STATIONS ≡ o → option_map (λ way. s ∷ way) o ≡ Some cycle → ⊥) [
        | None ↦ λ _ e. absurd (cc)
        | Some way ↦ λ back _. around w here way back
      ] refl
    ] refl is
  where
    around : (w : Wait) → wait_at waits s ≡ Some w → (way : List ℕ) → waiting_path waits s w.on MOST_STATIONS ≡ Some way → ⊥
    around w here way back =
        let is = hold.each s w here in
        let v : Event = Get w.station is.bytes in
        let own = got_own r w is in
        let place : HasPlace r h w.entry v = (always_as_said r h explains).places w.entry v own in
        let first : IsPlacedBelow r h w.entry (suc (length place.before)) = record { event = v; own = own; place = place; less = omega arith } in
        let next = next_before r h w (suc (length place.before)) limits explains is first in
        let start : AtEntry r h waits (length place.before) w.on =
        λ u there. subst (λ i. IsPlacedBelow r h i (length place.before)) (hold.on s w u here there) next in
        let again = way_leads r h waits s (length place.before) limits explains hold MOST_STATIONS w.on way back start w here in
        let at = own_entry r (station_of again.event) w.entry again.event again.own in
        let there = own_entry r w.station w.entry v own in
        let event : again.event ≡ v = sym at.is ∙ ap event_of (same_Some at.entry there.entry (sym at.at ∙ there.at)) ∙ there.is in
        let same : again.place.before ≡ place.before =
        place.only again.place.before (subst (Contains h again.place.before) event again.place.within) (subst (Represents r w.entry again.place.before) event again.place.stands) in
        omega (arith, again.less, ap length same)
