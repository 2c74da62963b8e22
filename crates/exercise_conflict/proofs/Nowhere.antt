-- Where missing sends are not enough at their places, they are so nowhere.
use Rattle.std.proofs.Common.{◌≡◌, ◌⊎◌, inl, inr, ⊎_elim, ℕ, zero, suc, ◌<◌, ◌≤◌, List, [], ◌∷◌, ◌++◌, map, filter, drop, get_or, length, cond, Bool, true, false, Option, Some, None, refl, sym, ap, ◌∙◌, subst, arith, append_assoc, append-nil}
use Rattle.std.specs.Prelude.{nat_eq, nat_lt, not, is_none, bytes_eq, ◌&&◌, ◌||◌, option_and_then, if◌then◌else◌}
use Rattle.std.specs.Option.{option_map_or}
use Rattle.std.specs.List.{list_any}
use Rattle.std.specs.Cmp.Lexicographic.{bytes_decides}
use Rattle.std.proofs.lemmas.Bool.{cases_lt, eqb-true, eq-eqb, or_cases}
use Rattle.std.proofs.lemmas.Bool.Decides.{nat_tests}
use Rattle.std.proofs.lemmas.List.{length-map}
use Rattle.std.proofs.lemmas.Option.{same_Some}
use Rattle.siman_pdus.specs.declared.pdu.Pdu.{Pdu}
use Rattle.exercise_model.specs.declared.cause.Cause.TheVariants.{Stranger, NeverSent}
use Rattle.exercise_model.specs.declared.recording.TheConstants.{MOST_ENTRIES}
use Rattle.exercise_model.specs.Recording.{PlainRecording, IsRecording}
use Rattle.exercise_model.specs.History.{Event, Send, Get, Tell, History, event_of, station_of, log_at, log_of, station_at}
use Rattle.exercise_model.specs.Setting.{SettingData, is_recorded, may_be_heard}
use Rattle.exercise_model.specs.Meaning.{meaning}
use Rattle.exercise_model.specs.Exchange.{is_answer_body}
use Rattle.exercise_model.specs.State.{state_after}
use Rattle.exercise_model.specs.Cause.{first_cause, tell_rows, send_cause, get_cause, sends, was_sent, cause_of, IsAllowed}
use Rattle.exercise_model.specs.Place.{own_event, log_before, entry_taken_up}
use Rattle.exercise_model.specs.Run.{IsRun, Explains, Contains, IsBeginning, IsStuck}
use Rattle.exercise_model.proofs.Offered.{beginning_length, get_where_sent, log_at-append, log_before-all, log_before-more, log_before-none, same_beginnings}
use Rattle.exercise_conflict.specs.declared.lacks.MissingSend.{MissingSend}
use Rattle.exercise_conflict.specs.Further.{bytes_at, is_this_missing_send, is_missing_send, HasMissingSends}
use Rattle.exercise_conflict.specs.Lacks.{missing_sends}
use Rattle.exercise_conflict.specs.Repair.{Every, slot_entry, kept, made, is_first, is_after, slots_below, repaired, is_too_long, is_able_missing, slots_recording}
use Rattle.exercise_conflict.specs.Wider.{AddsTo, sends_no_able}
use Rattle.exercise_conflict.proofs.Additions.{taken_same, impossible_same, state_same}
use Rattle.exercise_conflict.proofs.Compatible.{was_allowed}
use Rattle.exercise_conflict.proofs.Ends.{some_end}
use Rattle.exercise_conflict.proofs.Fewer.{bytes_there, is_send, some_lack}
use Rattle.exercise_conflict.proofs.Lacking.{own_first}
use Rattle.exercise_conflict.proofs.Members.{IsIn, Part, adds_weaker, begins_itself, begins_on, in_added, in_here, in_later, in_whole, old_or_new, part_before}
use Rattle.exercise_conflict.proofs.Places.{in_log}
use Rattle.exercise_conflict.proofs.Reaching.{Given, Lacked, lacked, Gone, before_entry, taken_from, took, upto, upto_none, upto_more, MayFollow, AllFollow, reach, send_allowed, missing_no_able, made_is}
use Rattle.exercise_conflict.proofs.Repairs.{IsLackOf, all_lacks, all_slots, are_slots, repaired_log, repaired_setting, shown_log, shown_log-cons, shown_log-one}
use Rattle.exercise_conflict.proofs.Sending.{may_send}
use Rattle.exercise_conflict.proofs.Waiting.{own_within, was_sent_at}

-- ---- who sent what was sent

in_front : (v : Event) (a b : History) → IsIn v a → IsIn v (a ++ b)
in_front v a b found =
    (found.0 ++ b, (found.1.0, sym (append_assoc found.1.0 (v ∷ found.0) b) ∙ ap (λ l. l ++ b) found.1.1))

in_log_more : (t : ℕ) (v w : Event) (h : History) → IsIn w (log_at t h) → IsIn w (log_at t (v ∷ h))
unfolding log_at
in_log_more t v w h found =
    elim (nat_eq (station_of v) t) as (λ b. IsIn w (cond b (v ∷ log_at t h) (log_at t h))) [
      | true ↦ in_later w (v ∷ []) (log_at t h) found
      | false ↦ found
    ]

sent_by : (b : List ℕ) (h : History) → was_sent b h ≡ true → (t : ℕ) × IsIn (Send t b) (log_at t h)
unfolding was_sent
sent_by b [] e = absurd (cc)
sent_by b (v ∷ h) e =
    ⊎_elim
    (λ (here : sends b v ≡ true). of_event v here)
    (λ (there : list_any (sends b) h ≡ true). let found = sent_by b h there in (found.0, in_log_more found.0 v (Send found.0 b) h found.1))
    (or_cases _ _ e)
  where
    of_event : (v : Event) → sends b v ≡ true → (t : ℕ) × IsIn (Send t b) (log_at t (v ∷ h))
    of_event (Send t c) here =
        let same : b ≡ c = (bytes_decides b c).0 here in
        (t, subst (λ d. IsIn (Send t b) (log_at t (Send t d ∷ h))) same (subst (IsIn (Send t b)) (sym (own_first (Send t b) h)) (in_here (Send t b) (log_at t h))))
    of_event (Get t c) here = absurd (cc)
    of_event (Tell t n y) here = absurd (cc)

-- ---- a missing send among those of its place

abbrev StandsAmong : PlainRecording → (MissingSend → Bool) → List MissingSend → MissingSend → Type 0
StandsAmong r t xs x = t x ≡ true → IsIn (event_of (slot_entry r (made x))) (shown_log r x.missing.sender (map made (filter t xs)))

among_more : (r : PlainRecording) (t : MissingSend → Bool) (x : MissingSend) (xs ys : List MissingSend) → Every (StandsAmong r t xs) ys → Every (StandsAmong r t (x ∷ xs)) ys
among_more r t x xs [] all = tt
among_more r t x xs (y ∷ ys) all = (
  λ on.
      let found = all.0 on in
      elim (t x) as (λ b. IsIn (event_of (slot_entry r (made y))) (shown_log r y.missing.sender (map made (cond b (x ∷ filter t xs) (filter t xs))))) [
        | true ↦ subst (IsIn (event_of (slot_entry r (made y)))) (sym (shown_log-cons r y.missing.sender (made x) (map made (filter t xs))))
            (in_front (event_of (slot_entry r (made y))) (shown_log r y.missing.sender (map made (filter t xs))) (shown_log r y.missing.sender (made x ∷ [])) found)
        | false ↦ found
      ],
  among_more r t x xs ys all.1,
)

made_among : (r : PlainRecording) (t : MissingSend → Bool) (xs : List MissingSend) → Every (StandsAmong r t xs) xs
made_among r t [] = tt
made_among r t (x ∷ xs) = (
  λ on.
      let v : Event = event_of (slot_entry r (made x)) in
      let s : ℕ = x.missing.sender in
      let one : shown_log r s (made x ∷ []) ≡ v ∷ [] = shown_log-one r s (made x) ∙ ap (λ b. cond b (v ∷ []) []) (eq-eqb s s refl) in
      subst (λ b. IsIn v (shown_log r s (map made (cond b (x ∷ filter t xs) (filter t xs))))) (sym on)
      (subst (IsIn v) (sym (shown_log-cons r s (made x) (map made (filter t xs))))
      (in_later v (shown_log r s (map made (filter t xs))) (shown_log r s (made x ∷ [])) (subst (IsIn v) (sym one) (in_here v [])))),
  among_more r t x xs xs (made_among r t xs),
)

all_standing : (r : PlainRecording) (whole xs : List MissingSend) → Every (Lacked r) xs → Every (StandsAmong r is_first whole) xs
    → ((j : ℕ) → Every (StandsAmong r (is_after j) whole) xs)
    → Every (λ lack. Lacked r lack × StandsAmong r is_first whole lack × ((j : ℕ) → StandsAmong r (is_after j) whole lack)) xs
all_standing r whole [] is first after = tt
all_standing r whole (x ∷ xs) is first after =
    ((is.0, first.0, λ j. (after j).0), all_standing r whole xs is.1 first.1 (λ j. (after j).1))

abbrev Stands : PlainRecording → MissingSend → Type 0
Stands r lack = Lacked r lack × StandsAmong r is_first (missing_sends r) lack × ((j : ℕ) → StandsAmong r (is_after j) (missing_sends r) lack)

standing : (r : PlainRecording) → is_able_missing r ≡ false → Every (Stands r) (missing_sends r)
standing r off = all_standing r (missing_sends r) (missing_sends r) (lacked r off) (made_among r is_first (missing_sends r)) (λ j. made_among r (is_after j) (missing_sends r))

-- ---- what was sent before in the run was sent at the end

sent_end : (b : List ℕ) (t : ℕ) (end : History) → IsIn (Send t b) (log_at t end) → was_sent b end ≡ true
sent_end b t end found = was_sent_at b t end found.0 found.1

-- by an entry of its station
sent_old : (r wide : PlainRecording) (h end : History) (t : ℕ) (b : List ℕ) (part : History) → Given r wide h end → IsBeginning part (log_of r t)
    → AllFollow r wide end t part → IsIn (Send t b) part → was_sent b end ≡ true
sent_old r wide h end t b part given begins follow found =
    let whole : IsBeginning (Send t b ∷ found.0) (log_of r t) = begins_on (Send t b ∷ found.0) part (log_of r t) found.1 begins in
    let entry = in_log r t (length r.entries) found.0 (Send t b) whole.0 (whole.1 ∙ sym (log_before-all r t)) in
    let log : Send t b ∷ log_before r t entry.0 ≡ log_before r t (suc entry.0) =
    ap (λ o. option_map_or (λ v. v ∷ log_before r t entry.0) o (log_before r t entry.0)) (sym entry.2.own) ∙ sym (log_before-more r t entry.0) in
    let up : IsBeginning (log_before r t (suc entry.0)) part =
    subst (λ l. IsBeginning l part) (ap (λ l. Send t b ∷ l) (sym entry.2.log) ∙ log) found.1 in
    let gone = reach r wide h end t part given follow (suc entry.0) (omega (arith, entry.1)) up in
    let there : IsIn (Send t b) (log_before r t (suc entry.0)) = subst (IsIn (Send t b)) log (in_here (Send t b) (log_before r t entry.0)) in
    sent_end b t end (in_whole (Send t b) (upto r t (suc entry.0)) (log_at t end) gone.begins
    (in_added (sends_no_able r.setting.exercise) (Send t b) (log_before r t (suc entry.0)) (upto r t (suc entry.0)) gone.adds there))

-- or as a missing send
sent_first : (r wide : PlainRecording) (h end : History) (lack : MissingSend) (part : History) → Given r wide h end → Stands r lack
    → AllFollow r wide end lack.missing.sender part → is_first lack ≡ true → was_sent (bytes_at r lack.entry) end ≡ true
sent_first r wide h end lack part given is follow first =
    let t : ℕ = lack.missing.sender in
    let gone = reach r wide h end t part given follow 0 (omega arith) (subst (λ l. IsBeginning l part) (sym (log_before-none r t)) (part, append-nil part)) in
    sent_end (bytes_at r lack.entry) t end (in_whole (Send t (bytes_at r lack.entry)) (upto r t 0) (log_at t end) gone.begins
    (subst (λ v. IsIn v (upto r t 0)) (made_is r lack) (subst (IsIn (event_of (slot_entry r (made lack)))) (sym (upto_none r t)) (is.1 first))))

asks_first : (a : Bool) (o : Option ℕ) (k : ℕ) → (if a then o else None) ≡ Some k → (a ≡ true) × (o ≡ Some k)
asks_first true o k e = (refl, e)
asks_first false o k e = absurd (cc)

sent_after : (r wide : PlainRecording) (h end g : History) (lack : MissingSend) (k : ℕ) → (given : Given r wide h end) → Stands r lack
    → (part : Part (is_missing_send r) (log_of r lack.missing.sender) (log_at lack.missing.sender g))
    → AllFollow r wide end lack.missing.sender part.part → IsBeginning (log_at lack.missing.sender g) (log_of wide lack.missing.sender)
    → IsIn (Send lack.missing.sender (bytes_at r lack.entry)) (log_at lack.missing.sender g)
    → lack.missing.after ≡ Some k → was_sent (bytes_at r lack.entry) end ≡ true
sent_after r wide h end g lack k given is part follow begins found after =
    let x : ℕ = r.setting.exercise in
    let t : ℕ = lack.missing.sender in
    let b : List ℕ = bytes_at r lack.entry in
    let of : IsLackOf r lack = is.0.of in
    let p : Pdu = of.lacking.pdu in
    let meant : meaning x b ≡ Some p = ap (meaning x) (bytes_there r lack of) ∙ of.lacking.meant in
    let asks = asks_first (is_answer_body p.body) (entry_taken_up r t p (length r.entries)) k (sym of.lacking.place ∙ after) in
    let within : IsBeginning (Send t b ∷ found.0) (log_of wide t) = begins_on (Send t b ∷ found.0) (log_at t g) (log_of wide t) found.1 begins in
    let was = was_allowed r wide h t b p found.0 given.further.setting given.explains meant within in
    let before = part_before (is_missing_send r) (found.1.0 ++ Send t b ∷ []) found.0 part.part
    (subst (AddsTo (is_missing_send r) part.part) (sym (append_assoc found.1.0 (Send t b ∷ []) found.0 ∙ found.1.1)) part.adds) in
    let adds : AddsTo (sends_no_able x) before.part found.0 =
    adds_weaker (is_missing_send r) (sends_no_able x) (missing_no_able r given.no_able) before.part found.0 before.adds in
    let up = took r t p found.0 before.part (begins_on before.part part.part (log_of r t) before.begins part.begins) adds was asks.0 in
    let less : up.entry < length r.entries = omega (arith, up.below, up.within) in
    let same : up.entry ≡ k = same_Some up.entry k (sym (taken_from r t p up.place up.entry (length r.entries) up.taken less) ∙ asks.1) in
    let event : IsBeginning (log_before r t (suc up.entry)) part.part =
    begins_on (log_before r t (suc up.entry)) before.part part.part
    (subst (IsBeginning (log_before r t (suc up.entry))) (sym up.is)
    (subst (λ l. IsBeginning l (log_before r t up.place))
    (ap (λ o. option_map_or (λ v. v ∷ log_before r t up.entry) o (log_before r t up.entry)) (sym up.own) ∙ sym (log_before-more r t up.entry))
    (own_within r t up.entry up.place up.event up.own up.below))) before.begins in
    let gone = reach r wide h end t part.part given follow (suc k) (omega (arith, same, less)) (subst (λ m. IsBeginning (log_before r t (suc m)) part.part) same event) in
    let on : is_after k lack ≡ true = ap (λ (o : Option ℕ). option_map_or (λ m. nat_eq m k) o false) after ∙ eq-eqb k k refl in
    let sends : History = shown_log r t (map made (filter (is_after k) (missing_sends r))) in
    sent_end b t end (in_whole (Send t b) (upto r t (suc k)) (log_at t end) gone.begins
    (subst (IsIn (Send t b)) (sym (upto_more r t k))
    (in_front (Send t b) sends (shown_log r t (kept k ∷ []) ++ upto r t k) (subst (λ v. IsIn v sends) (made_is r lack) (is.2 k on)))))

sent_new : (r wide : PlainRecording) (h end g : History) (lack : MissingSend) → (given : Given r wide h end) → Stands r lack
    → (part : Part (is_missing_send r) (log_of r lack.missing.sender) (log_at lack.missing.sender g))
    → AllFollow r wide end lack.missing.sender part.part → IsBeginning (log_at lack.missing.sender g) (log_of wide lack.missing.sender)
    → IsIn (Send lack.missing.sender (bytes_at r lack.entry)) (log_at lack.missing.sender g)
    → was_sent (bytes_at r lack.entry) end ≡ true
sent_new r wide h end g lack given is part follow begins found =
    elim lack.missing.after as (λ o. lack.missing.after ≡ o → was_sent (bytes_at r lack.entry) end ≡ true) [
      | None ↦ λ first. sent_first r wide h end lack part.part given is follow (ap is_none first)
      | Some k ↦ λ after. sent_after r wide h end g lack k given is part follow begins found after
    ] refl

station_sent : Event → ℕ → ℕ
station_sent (Send s b) d = s
station_sent (Get s b) d = d
station_sent (Tell s e y) d = d

bytes_sent : Event → List ℕ
bytes_sent (Send s b) = b
bytes_sent (Get s b) = []
bytes_sent (Tell s e y) = []

sent_on : (r wide : PlainRecording) (h end g : History) → (given : Given r wide h end) → ((s : ℕ) → IsBeginning (log_at s g) (log_of wide s))
    → (parts : (s : ℕ) → Part (is_missing_send r) (log_of r s) (log_at s g)) → ((s : ℕ) → AllFollow r wide end s (parts s).part)
    → (b : List ℕ) → was_sent b g ≡ true → was_sent b end ≡ true
unfolding station_sent bytes_sent
sent_on r wide h end g given begins parts follow b sent =
    let by = sent_by b g sent in
    let t : ℕ = by.0 in
    ⊎_elim
    (λ (old : IsIn (Send t b) (parts t).part). sent_old r wide h end t b (parts t).part given (parts t).begins (follow t) old)
    (λ (new : is_missing_send r (Send t b) ≡ true).
    let found = some_lack r (Stands r) (missing_sends r) (Send t b) (standing r given.no_able) new in
    let s : ℕ = found.0.missing.sender in
    let c : List ℕ = bytes_at r found.0.entry in
    let is : Send t b ≡ Send s c = is_send s c (Send t b) found.2 in
    let station : t ≡ s = ap (λ v. station_sent v 0) is in
    let bytes : b ≡ c = ap bytes_sent is in
    let there : IsIn (Send s c) (log_at s g) =
    subst (λ d. IsIn (Send s d) (log_at s g)) bytes (subst (λ u. IsIn (Send u b) (log_at u g)) station by.1) in
    ap (λ d. was_sent d end) bytes ∙ sent_new r wide h end g found.0 given found.1 (parts s) (follow s) (begins s) there)
    (old_or_new (is_missing_send r) (Send t b) (parts t).part (log_at t g) (parts t).adds by.1)

-- ---- an event of the run may follow

get_on : (w : SettingData) (h k : History) (b : List ℕ) (p : Pdu) → (was_sent b h ≡ true → was_sent b k ≡ true) → get_cause w h b p ≡ None → get_cause w k b p ≡ None
unfolding get_cause
get_on w h k b p on none = rows (may_be_heard w p) (is_recorded w p) (was_sent b h) (was_sent b k) on none
  where
    rows : (heard known sent later : Bool) → (sent ≡ true → later ≡ true) → first_cause ((not heard, Stranger) ∷ (known && not sent, NeverSent) ∷ []) ≡ None
        → first_cause ((not heard, Stranger) ∷ (known && not later, NeverSent) ∷ []) ≡ None
    rows false known sent later on e = absurd (cc)
    rows true false sent later on e = refl
    rows true true false later on e = absurd (cc)
    rows true true true later on e = ap (λ l. first_cause ((false, Stranger) ∷ (not l, NeverSent) ∷ [])) (on refl)

-- what follows in the run after g may follow at the end
may_follow : (r wide : PlainRecording) (h end g : History) (s i : ℕ) (v : Event) → (given : Given r wide h end) → station_of v ≡ s
    → IsAllowed r.setting g v → Contains (log_of wide s) (log_at s g) v → AddsTo (is_missing_send r) (log_before r s i) (log_at s g)
    → ((b : List ℕ) → was_sent b g ≡ true → was_sent b end ≡ true) → MayFollow r wide end s i v
unfolding cause_of
may_follow r wide h end g s i (Send t b) given own allowed within adds on gone same =
    let x : ℕ = r.setting.exercise in
    let k : History = upto r s i in
    elim (meaning x b) as (λ o. meaning x b ≡ o → option_and_then (send_cause x (station_at r t) (log_at t end)) o ≡ None) [
      | None ↦ λ _. refl
      | Some p ↦ λ meant.
          let weak : AddsTo (sends_no_able x) (log_before r s i) (log_at s g) =
          adds_weaker (is_missing_send r) (sends_no_able x) (missing_no_able r given.no_able) (log_before r s i) (log_at s g) adds in
          let within_s : Contains (log_of wide s) (log_at s g) (Send s b) = subst (λ u. Contains (log_of wide s) (log_at s g) (Send u b)) own within in
          let none : send_cause x (station_at r s) k p ≡ None =
          may_send r wide h s b p (log_at s g) k given.further.setting given.explains meant within_s gone.members
          (λ _. sym (taken_same x (station_at r s).address p (log_before r s i) k gone.adds) ∙ taken_same x (station_at r s).address p (log_before r s i) (log_at s g) weak)
          (λ q. sym (impossible_same x (station_at r s) p q (log_before r s i) k gone.adds) ∙ impossible_same x (station_at r s) p q (log_before r s i) (log_at s g) weak) in
          subst (λ u. send_cause x (station_at r u) (log_at u end) p ≡ None) (sym own) (ap (λ l. send_cause x (station_at r s) l p) same ∙ none)
    ] refl
may_follow r wide h end g s i (Get t b) given own allowed within adds on gone same =
    elim (meaning r.setting.exercise b) as (λ o. option_and_then (get_cause r.setting g b) o ≡ None → option_and_then (get_cause r.setting end b) o ≡ None) [
      | None ↦ λ e. e
      | Some p ↦ λ e. get_on r.setting g end b p (on b) e
    ] allowed
may_follow r wide h end g s i (Tell t e y) given own allowed within adds on gone same =
    let x : ℕ = r.setting.exercise in
    let weak : AddsTo (sends_no_able x) (log_before r s i) (log_at s g) =
    adds_weaker (is_missing_send r) (sends_no_able x) (missing_no_able r given.no_able) (log_before r s i) (log_at s g) adds in
    let states : state_after x (station_at r s) (log_at s end) e ≡ state_after x (station_at r s) (log_at s g) e =
    ap (λ l. state_after x (station_at r s) l e) same ∙ sym (state_same x (station_at r s) e (log_before r s i) (upto r s i) gone.adds)
    ∙ state_same x (station_at r s) e (log_before r s i) (log_at s g) weak in
    ap (λ z. first_cause (tell_rows y z))
    (subst (λ u. state_after x (station_at r u) (log_at u end) e ≡ state_after x (station_at r u) (log_at u g) e) (sym own) states) ∙ allowed

-- ---- the run goes by

-- the part of a log before one event more
record Back (r : PlainRecording) (s : ℕ) (v : Event) (g part : History) : Type 0 where
  pub before : Part (is_missing_send r) (log_of r s) (log_at s g)
  pub step : (part ≡ before.part) ⊎ ((station_of v ≡ s) × (part ≡ v ∷ before.part))

back : (r : PlainRecording) (s : ℕ) (v : Event) (g : History) → (part : Part (is_missing_send r) (log_of r s) (log_at s (v ∷ g))) → Back r s v g part.part
unfolding log_at
back r s v g part =
    elim (nat_eq (station_of v) s) as (λ b. nat_eq (station_of v) s ≡ b → AddsTo (is_missing_send r) part.part (cond b (v ∷ log_at s g) (log_at s g)) → Back r s v g part.part) [
      | false ↦ λ _ adds. record { before = record { part = part.part; begins = part.begins; adds = adds }; step = inl refl }
      | true ↦ λ own adds. ⊎_elim
          (λ (new : (is_missing_send r v ≡ true) × AddsTo (is_missing_send r) part.part (log_at s g)).
          record { before = record { part = part.part; begins = part.begins; adds = new.1 }; step = inl refl })
          (λ (old : (l : History) × (part.part ≡ v ∷ l) × AddsTo (is_missing_send r) l (log_at s g)).
          record {
            before = record {
              part = old.0;
              begins = begins_on old.0 (v ∷ old.0) (log_of r s) (v ∷ [], refl) (subst (λ l. IsBeginning l (log_of r s)) old.1 part.begins);
              adds = old.2;
            };
            step = inr (eqb-true (station_of v) s own, old.1);
          })
          adds
    ] refl part.adds

log_begins : (g h : History) (s : ℕ) → IsBeginning g h → IsBeginning (log_at s g) (log_at s h)
log_begins g h s p = (log_at s p.0, sym (log_at-append s p.0 g) ∙ ap (log_at s) p.1)

no_event : (v : Event) (later l : History) → later ++ v ∷ l ≡ [] → ⊥
no_event v [] l e = absurd (cc)
no_event v (x ∷ later) l e = absurd (cc)

-- EACH ENTRY THAT THE RUN CAME TO MAY FOLLOW
all_follow : (r wide : PlainRecording) (h end : History) → (given : Given r wide h end) → (g : History) → IsRun r.setting g → IsBeginning g h
    → (parts : (s : ℕ) → Part (is_missing_send r) (log_of r s) (log_at s g)) → (s : ℕ) → AllFollow r wide end s (parts s).part
unfolding log_at
all_follow r wide h end given [] run begins parts s i u within own begun = absurd (no_event u begun.0 (log_before r s i) (begun.1 ∙ (parts s).adds))
all_follow r wide h end given (v ∷ g) run begins parts s i u within own begun =
    let behind : (t : ℕ) → Back r t v g (parts t).part = λ t. back r t v g (parts t) in
    let earlier : IsBeginning g h = begins_on g (v ∷ g) h (v ∷ [], refl) begins in
    let rest : (t : ℕ) → AllFollow r wide end t (behind t).before.part =
    all_follow r wide h end given g run.0 earlier (λ t. (behind t).before) in
    let logs : (t : ℕ) → IsBeginning (log_at t g) (log_of wide t) =
    λ t. subst (IsBeginning (log_at t g)) (given.explains.logs t) (log_begins g h t earlier) in
    ⊎_elim
    (λ (same : (parts s).part ≡ (behind s).before.part). rest s i u within own (subst (IsBeginning (u ∷ log_before r s i)) same begun))
    (λ (one : (station_of v ≡ s) × ((parts s).part ≡ v ∷ (behind s).before.part)).
    of_later r wide h end given v g s i u within own run.1 one.0 begins (λ b. sent_on r wide h end g given logs (λ t. (behind t).before) rest b) (behind s).before
    (rest s) begun.0 (begun.1 ∙ one.1))
    (behind s).step
  where
    of_later : (r wide : PlainRecording) (h end : History) → (given : Given r wide h end) → (v : Event) (g : History) (s i : ℕ) (u : Event) → i < length r.entries
        → own_event r s i ≡ Some u → IsAllowed r.setting g v → station_of v ≡ s → IsBeginning (v ∷ g) h
        → ((b : List ℕ) → was_sent b g ≡ true → was_sent b end ≡ true)
        → (before : Part (is_missing_send r) (log_of r s) (log_at s g)) → AllFollow r wide end s before.part
        → (later : History) → later ++ u ∷ log_before r s i ≡ v ∷ before.part → MayFollow r wide end s i u
    of_later r wide h end given v g s i u within own allowed station begins on before rest [] e =
        let event : u ≡ v = ap (λ xs. get_or xs 0 u) e in
        let log : log_before r s i ≡ before.part = ap (drop 1) e in
        let within_log : Contains (log_of wide s) (log_at s g) v =
        subst (λ l. IsBeginning (v ∷ log_at s g) l) (given.explains.logs s)
        (subst (λ l. IsBeginning l (log_at s h)) (subst (λ t. log_at t (v ∷ g) ≡ v ∷ log_at t g) station (own_first v g)) (log_begins (v ∷ g) h s begins)) in
        subst (MayFollow r wide end s i) (sym event)
        (may_follow r wide h end g s i v given station allowed within_log (subst (λ l. AddsTo (is_missing_send r) l (log_at s g)) (sym log) before.adds) on)
    of_later r wide h end given v g s i u within own allowed station begins on before rest (x ∷ later) e =
        rest i u within own (later, ap (drop 1) e)

-- ---- so the end explains

pub ends_explain : (r wide : PlainRecording) (h end : History) → Given r wide h end → Explains (repaired r) end
ends_explain r wide h end given =
    let run : IsRun r.setting h = subst (λ w. IsRun w h) given.further.setting given.explains.run in
    let parts : (s : ℕ) → Part (is_missing_send r) (log_of r s) (log_at s h) =
    λ s. record {
      part = log_of r s;
      begins = begins_itself (log_of r s);
      adds = subst (AddsTo (is_missing_send r) (log_of r s)) (sym (given.explains.logs s)) (given.further.logs s);
    } in
    record {
      run = given.stuck.covers.run;
      logs = λ s.
          let gone = reach r wide h end s (log_of r s) given (all_follow r wide h end given h run (begins_itself h) parts s) (length r.entries) (omega arith)
          (subst (λ l. IsBeginning l (log_of r s)) (sym (log_before-all r s)) (begins_itself (log_of r s))) in
          let begins : IsBeginning (log_of (repaired r) s) (log_at s end) = subst (λ l. IsBeginning l (log_at s end)) (sym (repaired_log r s)) gone.begins in
          let covers = given.stuck.covers.logs s in
          same_beginnings (log_at s end) (log_of (repaired r) s) (log_of (repaired r) s) covers (begins_itself (log_of (repaired r) s))
          (omega (arith, beginning_length (log_of (repaired r) s) (log_at s end) begins, beginning_length (log_at s end) (log_of (repaired r) s) covers));
    }

-- a repaired recording that is not too long keeps the limits
pub repaired_limits : (r : PlainRecording) → IsRecording r → is_too_long r ≡ false → IsRecording (repaired r)
unfolding repaired is_too_long
repaired_limits r limits fits =
    let slots = slots_below (missing_sends r) (length r.entries) in
    (are_slots r slots limits (all_slots r (missing_sends r) (length r.entries) (omega arith) (all_lacks r (length r.entries)))
    (omega (arith, length-map slots (slot_entry r), not_less MOST_ENTRIES (length slots) fits))).limits
  where
    not_less : (a b : ℕ) → nat_lt a b ≡ false → b ≤ a
    not_less a b e = grind (arith, nat_tests)

-- NOWHERE ELSE: where the repaired recording is not explained and none of its sends is an Able, no recording with missing sends is
pub nowhere_explained : (r wide : PlainRecording) (h : History) → IsRecording r → IsRecording wide → is_too_long r ≡ false → is_able_missing r ≡ false
    → ((k : History) → Explains (repaired r) k → ⊥) → HasMissingSends r wide → Explains wide h → ⊥
nowhere_explained r wide h limits good fits no_able unexplained further explains =
    let end = some_end (repaired r) (repaired_limits r limits fits) in
    unexplained end.0 (ends_explain r wide h end.0 (record { good = good; further = further; explains = explains; no_able = no_able; stuck = end.1 }))
