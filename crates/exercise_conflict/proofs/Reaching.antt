-- How far the logs of a repaired recording are gone in a run of it that can't go on, where some run explains a recording with missing sends.
use Rattle.std.proofs.Common.{◌≡◌, ◌≢◌, ◌⊎◌, inl, inr, ⊎_elim, ℕ, zero, suc, ◌+◌, ◌-◌, ◌<◌, ◌≤◌, List, [], ◌∷◌, ◌++◌, map, filter, get_or, drop, length, cond, Bool, true, false, Option, Some, None, refl, sym, ap, ◌∙◌, subst, arith, append_assoc, append-nil}
use Rattle.std.specs.Prelude.{slice_get, slice_index_or, nat_eq, not, is_none, ◌&&◌, ◌||◌, option_and_then, if◌then◌else◌}
use Rattle.std.specs.Option.{option_map_or}
use Rattle.std.specs.List.{list_any}
use Rattle.std.proofs.lemmas.Bool.{cases_lt, eqb-true, eq-eqb}
use Rattle.std.proofs.lemmas.Option.{same_Some}
use Rattle.siman_pdus.specs.declared.pdu.Pdu.{Pdu}
use Rattle.exercise_model.specs.declared.cause.Cause.{Cause}
use Rattle.exercise_model.specs.Entry.{Entry, Received}
use Rattle.exercise_model.specs.Recording.{PlainRecording, IsRecording}
use Rattle.exercise_model.specs.History.{Event, Send, Get, Tell, History, event_of, station_of, log_at, log_of, station_at}
use Rattle.exercise_model.specs.Setting.{SettingData, station_in, is_recorded, may_be_heard}
use Rattle.exercise_model.specs.Station.{StationData}
use Rattle.exercise_model.specs.Meaning.{meaning}
use Rattle.exercise_model.specs.Exchange.{is_answer_body, request_taken_up}
use Rattle.exercise_model.specs.Change.{able, responds, key_of, was_acknowledged, is_change}
use Rattle.exercise_model.specs.State.{change_of, state_after}
use Rattle.exercise_model.specs.Cause.{first_cause, tell_rows, is_hopeless, is_impossible, send_cause, get_cause, sends, was_sent, cause_of, IsAllowed}
use Rattle.exercise_model.specs.Place.{own_event, log_before, first_below, brings_request, entry_taken_up}
use Rattle.exercise_model.specs.Run.{IsRun, Explains, Contains, IsBeginning, IsStuck}
use Rattle.exercise_model.proofs.Offered.{beginning_length, first_found, get_where_sent, log_at-append, log_before-all, log_before-beginning, log_before-more, log_before-next, log_before-none, same_beginnings}
use Rattle.exercise_findings.specs.Missing.{place_of}
use Rattle.exercise_conflict.specs.declared.lacks.MissingSend.{MissingSend}
use Rattle.exercise_conflict.specs.declared.repaired.RepairedEntry.{RepairedEntry}
use Rattle.exercise_conflict.specs.Further.{bytes_at, is_this_missing_send, is_missing_send, HasMissingSends}
use Rattle.exercise_conflict.specs.Lacks.{missing_sends}
use Rattle.exercise_conflict.specs.Needed.{HasSend}
use Rattle.exercise_conflict.specs.Repair.{Every, bytes_of, no_entry, slot_entry, kept, made, is_first, is_after, slots_below, repaired, is_able, is_able_at, is_able_missing}
use Rattle.exercise_conflict.specs.Wider.{AddsTo, anything, sends_no_able, IsWider}
use Rattle.exercise_conflict.proofs.Additions.{taken_same, impossible_same, state_same}
use Rattle.exercise_conflict.proofs.Blocks.{own_entry}
use Rattle.exercise_conflict.proofs.Compatible.{WasAllowed, was_allowed}
use Rattle.exercise_conflict.proofs.Contradicting.{by_entry, brought, takes_up}
use Rattle.exercise_conflict.proofs.Fewer.{bytes_received, bytes_there, is_send, some_lack}
use Rattle.exercise_conflict.proofs.Lacking.{needed}
use Rattle.exercise_conflict.proofs.Members.{IsIn, Part, adds_weaker, begins_itself, begins_on, begins_tail, in_added, in_here, in_later, in_whole, old_or_new, part_before, shorter}
use Rattle.exercise_conflict.proofs.Places.{in_log}
use Rattle.exercise_conflict.proofs.Repairs.{IsLackOf, MadePasses, all_lacks, kept_shown, none_able, repaired_log, repaired_setting, shown_log, shown_log-append, shown_log-cons, shown_log-none, shown_log-one}
use Rattle.exercise_conflict.proofs.Sending.{may_send}
use Rattle.exercise_conflict.proofs.Steps.{first_here}
use Rattle.exercise_conflict.proofs.Waiting.{own_within, was_sent_at}

-- ---- what is given

pub record Given (r wide : PlainRecording) (h end : History) : Type 0 where
  pub good : IsRecording wide
  pub further : HasMissingSends r wide
  pub explains : Explains wide h
  pub no_able : is_able_missing r ≡ false
  pub stuck : IsStuck (repaired r) end

-- what is known of each send that is missing
pub record Lacked (r : PlainRecording) (lack : MissingSend) : Type 0 where
  pub of : IsLackOf r lack
  pub no_able : MadePasses r (sends_no_able r.setting.exercise) lack

all_lacked : (r : PlainRecording) (xs : List MissingSend) → Every (IsLackOf r) xs → Every (MadePasses r (sends_no_able r.setting.exercise)) xs → Every (Lacked r) xs
all_lacked r [] of able = tt
all_lacked r (x ∷ xs) of able = (record { of = of.0; no_able = able.0 }, all_lacked r xs of.1 able.1)

pub lacked : (r : PlainRecording) → is_able_missing r ≡ false → Every (Lacked r) (missing_sends r)
unfolding is_able_missing
lacked r off = all_lacked r (missing_sends r) (all_lacks r (length r.entries)) (none_able r (missing_sends r) (all_lacks r (length r.entries)) off)

-- the event of a missing send
pub made_is : (r : PlainRecording) (lack : MissingSend) → event_of (slot_entry r (made lack)) ≡ Send lack.missing.sender (bytes_at r lack.entry)
unfolding bytes_at
made_is r lack = refl

pub missing_no_able : (r : PlainRecording) → is_able_missing r ≡ false → (v : Event) → is_missing_send r v ≡ true → sends_no_able r.setting.exercise v ≡ true
missing_no_able r off v e =
    let found = some_lack r (Lacked r) (missing_sends r) v (lacked r off) e in
    ap (sends_no_able r.setting.exercise) (is_send found.0.missing.sender (bytes_at r found.0.entry) v found.2 ∙ sym (made_is r found.0)) ∙ found.1.no_able

wider : (r wide : PlainRecording) → HasMissingSends r wide → IsWider r wide
wider r wide further = record {
  setting = further.setting;
  logs = λ s. adds_weaker (is_missing_send r) anything (λ v _. refl) (log_of r s) (log_of wide s) (further.logs s);
}

-- each of them stands in the log of its station
made_in : (r wide : PlainRecording) (h end : History) → Given r wide h end → (lack : MissingSend) → IsLackOf r lack
    → HasSend wide lack.missing.sender (bytes_at r lack.entry)
made_in r wide h end given lack of =
    let need = needed r wide h lack.entry lack.missing given.good (wider r wide given.further) given.explains of.is in
    subst (HasSend wide lack.missing.sender) (sym (bytes_received r lack.entry need.station need.stamp need.bytes need.got)) need.sent

-- ---- growing

-- how far a station is gone: what stands there adds to its log before entry i, is all of the run, and begins its log at the end
pub record Gone (r wide : PlainRecording) (end : History) (s i : ℕ) (k : History) : Type 0 where
  pub adds : AddsTo (sends_no_able r.setting.exercise) (log_before r s i) k
  pub members : Every (λ v. IsIn v (log_of wide s)) k
  pub begins : IsBeginning k (log_at s end)

-- a run that can't go on has each event that is allowed where its log ends
grow : (r : PlainRecording) (end : History) (s : ℕ) (v : Event) (k : History) → IsStuck (repaired r) end → station_of v ≡ s
    → IsBeginning k (log_at s end) → IsBeginning (v ∷ k) (log_of (repaired r) s)
    → (log_at s end ≡ k → cause_of r.setting end v ≡ None) → IsBeginning (v ∷ k) (log_at s end)
grow r end s v k stuck own begins next allowed =
    ⊎_elim
    (λ (longer : length k < length (log_at s end)). shorter (v ∷ k) (log_at s end) (log_of (repaired r) s) next (stuck.covers.logs s) (omega (arith, longer)))
    (λ (most : length (log_at s end) ≤ length k).
    let lengths : length k ≡ length (log_at s end) = omega (arith, most, beginning_length k (log_at s end) begins) in
    let equal : k ≡ log_at s end = same_beginnings k (log_at s end) (log_of (repaired r) s) (begins_tail v k (log_of (repaired r) s) next) (stuck.covers.logs s) lengths in
    absurd (stuck.stuck v
    (subst (λ t. IsBeginning (v ∷ log_at t end) (log_of (repaired r) t)) (sym own) (subst (λ l. IsBeginning (v ∷ l) (log_of (repaired r) s)) equal next))
    (ap (λ w. cause_of w end v) (repaired_setting r) ∙ allowed (sym equal))))
    (cases_lt (length k) (length (log_at s end)))

begins_back : (a k whole : History) → IsBeginning (a ++ k) whole → IsBeginning k whole
begins_back a k whole p = (p.0 ++ a, append_assoc p.0 a k ∙ p.1)

-- ---- the place of a missing send

-- it belongs at the start, or behind an entry below i
abbrev pub IsPlaced : ℕ → MissingSend → Type 0
IsPlaced i lack = (is_first lack ≡ true) ⊎ ((j : ℕ) × (is_after j lack ≡ true) × (j < i))

-- a beginning of a log is what stands before some entry
pub before_some : (r : PlainRecording) (s n : ℕ) (l : History) → IsBeginning l (log_before r s n) → (j : ℕ) × (j ≤ n) × (l ≡ log_before r s j)
before_some r s zero l p = (zero, omega arith, nothing p.0 (p.1 ∙ log_before-none r s) ∙ sym (log_before-none r s))
  where
    nothing : (later : History) → later ++ l ≡ [] → l ≡ []
    nothing [] e = e
    nothing (x ∷ later) e = absurd (cc)
before_some r s (suc n) l p =
    elim (own_event r s n) as (λ o. own_event r s n ≡ o → p.0 ++ l ≡ option_map_or (λ v. v ∷ log_before r s n) o (log_before r s n)
    → (j : ℕ) × (j ≤ suc n) × (l ≡ log_before r s j)) [
      | None ↦ λ _ e. up (before_some r s n l (p.0, e))
      | Some v ↦ λ own e. of_later v own (λ later rest. before_some r s n l (later, rest)) p.0 e
    ] refl (p.1 ∙ log_before-more r s n)
  where
    up : (j : ℕ) × (j ≤ n) × (l ≡ log_before r s j) → (j : ℕ) × (j ≤ suc n) × (l ≡ log_before r s j)
    up found = (found.0, omega (arith, found.1), found.2)

    of_later : (v : Event) → own_event r s n ≡ Some v → ((later : History) → later ++ l ≡ log_before r s n → (j : ℕ) × (j ≤ n) × (l ≡ log_before r s j))
        → (later : History) → later ++ l ≡ v ∷ log_before r s n → (j : ℕ) × (j ≤ suc n) × (l ≡ log_before r s j)
    of_later v own rest [] e =
        (suc n, omega arith, e ∙ ap (λ o. option_map_or (λ w. w ∷ log_before r s n) o (log_before r s n)) (sym own) ∙ sym (log_before-more r s n))
    of_later v own rest (x ∷ later) e = up (rest later (ap (drop 1) e))

pub before_entry : (r : PlainRecording) (s : ℕ) (l : History) → IsBeginning l (log_of r s) → (j : ℕ) × (j ≤ length r.entries) × (l ≡ log_before r s j)
before_entry r s l p = before_some r s (length r.entries) l (subst (IsBeginning l) (sym (log_before-all r s)) p)

-- what is taken up before an entry is taken up before each later one
pub taken_from : (r : PlainRecording) (s : ℕ) (p : Pdu) (j k m : ℕ) → entry_taken_up r s p j ≡ Some k → k < m → entry_taken_up r s p m ≡ Some k
unfolding entry_taken_up
taken_from r s p j k m is less =
    let first = first_found (brings_request r s p) j k is in
    first_here (brings_request r s p) k m first.none first.passes less

-- so the request is the same one
taken_alike : (r : PlainRecording) (s : ℕ) (p : Pdu) (j k m : ℕ) → entry_taken_up r s p j ≡ Some k → k < m
    → request_taken_up r.setting.exercise (station_at r s).address p (log_before r s m) ≡ request_taken_up r.setting.exercise (station_at r s).address p (log_before r s j)
taken_alike r s p j k m is less =
    by_entry r s p m ∙ ap (option_and_then (brought r s p)) (taken_from r s p j k m is less ∙ sym is) ∙ sym (by_entry r s p j)

-- what is before a send in a log of the run, and what it takes up there
pub record Took (r : PlainRecording) (s : ℕ) (p : Pdu) (log part : History) : Type 0 where
  pub place : ℕ
  pub within : place ≤ length r.entries
  pub is : part ≡ log_before r s place
  pub entry : ℕ
  pub taken : entry_taken_up r s p place ≡ Some entry
  pub below : entry < place
  pub event : Event
  pub own : own_event r s entry ≡ Some event
  pub request : request_taken_up r.setting.exercise (station_at r s).address p log ≡ request_taken_up r.setting.exercise (station_at r s).address p (log_before r s place)

asked_there : (a : Bool) (o : Option Pdu) → (a && is_none o) ≡ false → a ≡ true → is_none o ≡ false
asked_there true o e answer = e
asked_there false o e answer = absurd (cc)

pub took : (r : PlainRecording) (s : ℕ) (p : Pdu) (log part : History) → IsBeginning part (log_of r s) → AddsTo (sends_no_able r.setting.exercise) part log
    → WasAllowed r s p log → is_answer_body p.body ≡ true → Took r s p log part
took r s p log part begins adds was answer =
    let x : ℕ = r.setting.exercise in
    let a = (station_at r s).address in
    let at = before_entry r s part begins in
    let same : request_taken_up x a p log ≡ request_taken_up x a p (log_before r s at.0) = sym (taken_same x a p part log adds) ∙ ap (request_taken_up x a p) at.2 in
    let some : is_none (request_taken_up x a p (log_before r s at.0)) ≡ false =
    ap is_none (sym same) ∙ asked_there (is_answer_body p.body) (request_taken_up x a p log) was.asked answer in
    let up = takes_up r s at.0 p some in
    record { place = at.0; within = at.1; is = at.2; entry = up.entry; taken = up.taken; below = up.earlier; event = up.event; own = up.own; request = same }

-- where a missing answer belongs
after_is : (r : PlainRecording) (lack : MissingSend) (of : IsLackOf r lack) (k : ℕ) → is_answer_body of.lacking.pdu.body ≡ true
    → entry_taken_up r lack.missing.sender of.lacking.pdu (length r.entries) ≡ Some k → lack.missing.after ≡ Some k
after_is r lack of k answer is =
    of.lacking.place ∙ ap (λ (b : Bool). if b then entry_taken_up r lack.missing.sender of.lacking.pdu (length r.entries) else None) answer ∙ is

-- a placed answer has what it takes up before it
placed_after : (r : PlainRecording) (lack : MissingSend) (i k : ℕ) → IsPlaced i lack → lack.missing.after ≡ Some k → k < i
placed_after r lack i k placed after =
    ⊎_elim
    (λ (first : is_first lack ≡ true). absurd (cc (sym (ap is_none after) ∙ first)))
    (λ (at : (j : ℕ) × (is_after j lack ≡ true) × (j < i)).
    let same : k ≡ at.0 = eqb-true k at.0 (sym (ap (λ (o : Option ℕ). option_map_or (λ m. nat_eq m at.0) o false) after) ∙ at.1) in
    omega (arith, same, at.2))
    placed

-- ---- a missing send may follow

-- what is no Able makes no change
never_change : (x : ℕ) (o : StationData) (p q : Pdu) (log : History) → responds able p ≡ false → is_impossible x o log p q ≡ false
unfolding is_impossible is_change
never_change x o p q log off =
    let c = change_of p q in
    ap (λ t. (t && option_map_or (λ k. not (was_acknowledged x able k log)) (key_of p) false) && is_hopeless c.kind c.scope (state_after x o log)) off

no_able_pdu : (r : PlainRecording) (lack : MissingSend) (of : IsLackOf r lack) → MadePasses r (sends_no_able r.setting.exercise) lack → responds able of.lacking.pdu ≡ false
no_able_pdu r lack of passes =
    turned (responds able of.lacking.pdu)
    (sym (ap (λ v. sends_no_able r.setting.exercise v) (made_is r lack ∙ ap (Send lack.missing.sender) (bytes_there r lack of))
    ∙ ap (λ o. not (option_map_or (responds able) o false)) of.lacking.meant) ∙ passes)
  where
    turned : (b : Bool) → not b ≡ true → b ≡ false
    turned true e = absurd (cc)
    turned false e = refl

pub send_allowed : (r : PlainRecording) (end : History) (s : ℕ) (b : List ℕ) (p : Pdu) (k : History) → meaning r.setting.exercise b ≡ Some p → log_at s end ≡ k
    → send_cause r.setting.exercise (station_at r s) k p ≡ None → cause_of r.setting end (Send s b) ≡ None
unfolding cause_of
send_allowed r end s b p k meant same none =
    ap (option_and_then (send_cause r.setting.exercise (station_at r s) (log_at s end))) meant
    ∙ ap (λ l. send_cause r.setting.exercise (station_at r s) l p) same ∙ none

made_allowed : (r wide : PlainRecording) (h end : History) (i : ℕ) (k : History) → Given r wide h end → (lack : MissingSend) → Lacked r lack → IsPlaced i lack
    → Gone r wide end lack.missing.sender i k → log_at lack.missing.sender end ≡ k
    → cause_of r.setting end (Send lack.missing.sender (bytes_at r lack.entry)) ≡ None
made_allowed r wide h end i k given lack is placed gone same =
    let x : ℕ = r.setting.exercise in
    let s : ℕ = lack.missing.sender in
    let b : List ℕ = bytes_at r lack.entry in
    let p : Pdu = is.of.lacking.pdu in
    let meant : meaning x b ≡ Some p = ap (meaning x) (bytes_there r lack is.of) ∙ is.of.lacking.meant in
    let sent = made_in r wide h end given lack is.of in
    let was = was_allowed r wide h s b p sent.0 given.further.setting given.explains meant sent.1 in
    let adds : AddsTo (sends_no_able x) (log_of r s) (log_of wide s) =
    adds_weaker (is_missing_send r) (sends_no_able x) (missing_no_able r given.no_able) (log_of r s) (log_of wide s) (given.further.logs s) in
    let part = part_before (sends_no_able x) (sent.1.0 ++ Send s b ∷ []) sent.0 (log_of r s)
    (subst (AddsTo (sends_no_able x) (log_of r s)) (sym (append_assoc sent.1.0 (Send s b ∷ []) sent.0 ∙ sent.1.1)) adds) in
    let taken : is_answer_body p.body ≡ true → request_taken_up x (station_at r s).address p k ≡ request_taken_up x (station_at r s).address p sent.0 =
    λ answer.
    let up = took r s p sent.0 part.part part.begins part.adds was answer in
    let less : up.entry < length r.entries = omega (arith, up.below, up.within) in
    let after = after_is r lack is.of up.entry answer (taken_from r s p up.place up.entry (length r.entries) up.taken less) in
    sym (taken_same x (station_at r s).address p (log_before r s i) k gone.adds)
    ∙ taken_alike r s p up.place up.entry i up.taken (placed_after r lack i up.entry placed after) ∙ sym up.request in
    let off : responds able p ≡ false = no_able_pdu r lack is.of is.no_able in
    send_allowed r end s b p k meant same
    (may_send r wide h s b p sent.0 k given.further.setting given.explains meant sent.1 gone.members taken
    (λ q. never_change x (station_at r s) p q k off ∙ sym (never_change x (station_at r s) p q sent.0 off)))

-- ---- the sends at one place

one_grows : (r wide : PlainRecording) (h end : History) (s i : ℕ) (k : History) → Given r wide h end → (lack : MissingSend) → Lacked r lack → IsPlaced i lack
    → Gone r wide end s i k → IsBeginning (shown_log r s (made lack ∷ []) ++ k) (log_of (repaired r) s)
    → Gone r wide end s i (shown_log r s (made lack ∷ []) ++ k)
one_grows r wide h end s i k given lack is placed gone begins =
    let v : Event = event_of (slot_entry r (made lack)) in
    subst (λ l. Gone r wide end s i (l ++ k)) (sym (shown_log-one r s (made lack)))
    (elim (nat_eq (station_of v) s) as (λ b. nat_eq (station_of v) s ≡ b → IsBeginning (cond b (v ∷ []) [] ++ k) (log_of (repaired r) s)
    → Gone r wide end s i (cond b (v ∷ []) [] ++ k)) [
      | false ↦ λ _ _. gone
      | true ↦ λ own next.
          let station : lack.missing.sender ≡ s = eqb-true (station_of v) s own in
          let event : v ≡ Send lack.missing.sender (bytes_at r lack.entry) = made_is r lack in
          let there : IsIn v (log_of wide s) =
          subst (λ t. IsIn v (log_of wide t)) station (subst (λ w. IsIn w (log_of wide lack.missing.sender)) (sym event) (made_in r wide h end given lack is.of)) in
          record {
            adds = inl (is.no_able, gone.adds);
            members = (there, gone.members);
            begins = grow r end s v k given.stuck station gone.begins next
                (λ same. ap (cause_of r.setting end) event
                ∙ made_allowed r wide h end i k given lack is placed (subst (λ t. Gone r wide end t i k) (sym station) gone) (ap (λ t. log_at t end) station ∙ same));
          }
    ] refl (subst (λ l. IsBeginning (l ++ k) (log_of (repaired r) s)) (shown_log-one r s (made lack)) begins))

-- a send that is missing and has its place
pub record Put (r : PlainRecording) (i : ℕ) (lack : MissingSend) : Type 0 where
  pub is : Lacked r lack
  pub placed : IsPlaced i lack

sends_grow : (r wide : PlainRecording) (h end : History) (s i : ℕ) (k : History) → Given r wide h end → (xs : List MissingSend) → Every (Put r i) xs
    → Gone r wide end s i k → IsBeginning (shown_log r s (map made xs) ++ k) (log_of (repaired r) s) → Gone r wide end s i (shown_log r s (map made xs) ++ k)
sends_grow r wide h end s i k given [] all gone begins = subst (λ l. Gone r wide end s i (l ++ k)) (sym (shown_log-none r s)) gone
sends_grow r wide h end s i k given (x ∷ xs) all gone begins =
    let whole : shown_log r s (map made (x ∷ xs)) ++ k ≡ shown_log r s (map made xs) ++ (shown_log r s (made x ∷ []) ++ k) =
    ap (λ l. l ++ k) (shown_log-cons r s (made x) (map made xs)) ∙ append_assoc (shown_log r s (map made xs)) (shown_log r s (made x ∷ [])) k in
    let next : IsBeginning (shown_log r s (map made xs) ++ (shown_log r s (made x ∷ []) ++ k)) (log_of (repaired r) s) =
    subst (λ l. IsBeginning l (log_of (repaired r) s)) whole begins in
    subst (Gone r wide end s i) (sym whole)
    (sends_grow r wide h end s i (shown_log r s (made x ∷ []) ++ k) given xs all.1
    (one_grows r wide h end s i k given x all.0.is all.0.placed gone
    (begins_back (shown_log r s (map made xs)) (shown_log r s (made x ∷ []) ++ k) (log_of (repaired r) s) next)) next)

filtered : (r : PlainRecording) (i : ℕ) (t : MissingSend → Bool) → ((lack : MissingSend) → t lack ≡ true → IsPlaced i lack) → (xs : List MissingSend) → Every (Lacked r) xs
    → Every (Put r i) (filter t xs)
filtered r i t place [] all = tt
filtered r i t place (x ∷ xs) all =
    elim (t x) as (λ b. t x ≡ b → Every (Put r i) (cond b (x ∷ filter t xs) (filter t xs))) [
      | true ↦ λ here. (record { is = all.0; placed = place x here }, filtered r i t place xs all.1)
      | false ↦ λ _. filtered r i t place xs all.1
    ] refl

-- ---- the log of a repaired recording, up to an entry

abbrev pub upto : PlainRecording → ℕ → ℕ → History
upto r s i = shown_log r s (slots_below (missing_sends r) i)

pub upto_none : (r : PlainRecording) (s : ℕ) → upto r s 0 ≡ shown_log r s (map made (filter is_first (missing_sends r)))
unfolding slots_below
upto_none r s = refl

pub upto_more : (r : PlainRecording) (s i : ℕ)
    → upto r s (suc i) ≡ shown_log r s (map made (filter (is_after i) (missing_sends r))) ++ (shown_log r s (kept i ∷ []) ++ upto r s i)
unfolding slots_below
upto_more r s i =
    let after : List RepairedEntry = map made (filter (is_after i) (missing_sends r)) in
    shown_log-append r s (slots_below (missing_sends r) i) (kept i ∷ after)
    ∙ ap (λ k. k ++ upto r s i) (shown_log-cons r s (kept i) after)
    ∙ append_assoc (shown_log r s after) (shown_log r s (kept i ∷ [])) (upto r s i)

upto_on : (r : PlainRecording) (s i d : ℕ) → IsBeginning (upto r s i) (upto r s (d + i))
upto_on r s i zero = let same : i ≡ 0 + i = omega arith in subst (λ m. IsBeginning (upto r s i) (upto r s m)) same (begins_itself (upto r s i))
upto_on r s i (suc d) =
    let same : suc (d + i) ≡ suc d + i = omega arith in
    subst (λ m. IsBeginning (upto r s i) (upto r s m)) same
    (begins_on (upto r s i) (upto r s (d + i)) (upto r s (suc (d + i))) (upto_on r s i d)
    (begins_back (shown_log r s (kept (d + i) ∷ [])) (upto r s (d + i)) (upto r s (suc (d + i)))
    (shown_log r s (map made (filter (is_after (d + i)) (missing_sends r))), sym (upto_more r s (d + i)))))

pub upto_begins : (r : PlainRecording) (s i : ℕ) → i ≤ length r.entries → IsBeginning (upto r s i) (log_of (repaired r) s)
upto_begins r s i le =
    let same : length r.entries - i + i ≡ length r.entries = omega (arith, le) in
    subst (IsBeginning (upto r s i)) (ap (upto r s) same ∙ sym (repaired_log r s)) (upto_on r s i (length r.entries - i))

-- an event may be what comes next in a log that is gone up to entry i
abbrev pub MayFollow : PlainRecording → PlainRecording → History → ℕ → ℕ → Event → Type 0
MayFollow r wide end s i u = Gone r wide end s i (upto r s i) → log_at s end ≡ upto r s i → cause_of r.setting end u ≡ None

-- each entry whose event stands in part of the log may follow
abbrev pub AllFollow : PlainRecording → PlainRecording → History → ℕ → History → Type 0
AllFollow r wide end s part =
    (i : ℕ) (u : Event) → i < length r.entries → own_event r s i ≡ Some u → IsBeginning (u ∷ log_before r s i) part → MayFollow r wide end s i u

-- an entry of a log that is gone up to it
entry_grows : (r wide : PlainRecording) (h end : History) (s i : ℕ) (part : History) → Given r wide h end → AllFollow r wide end s part → i < length r.entries
    → IsBeginning (log_before r s (suc i)) part → Gone r wide end s i (upto r s i)
    → IsBeginning (shown_log r s (kept i ∷ []) ++ upto r s i) (log_of (repaired r) s)
    → Gone r wide end s (suc i) (shown_log r s (kept i ∷ []) ++ upto r s i)
entry_grows r wide h end s i part given follow within begins gone next =
    let shown = kept_shown r s i within in
    subst (λ l. Gone r wide end s (suc i) (l ++ upto r s i)) (sym shown)
    (elim (own_event r s i) as (λ o. own_event r s i ≡ o → IsBeginning (option_map_or (λ v. v ∷ []) o [] ++ upto r s i) (log_of (repaired r) s)
    → Gone r wide end s (suc i) (option_map_or (λ v. v ∷ []) o [] ++ upto r s i)) [
      | None ↦ λ none _.
          let log : log_before r s i ≡ log_before r s (suc i) =
          ap (λ o. option_map_or (λ v. v ∷ log_before r s i) o (log_before r s i)) (sym none) ∙ sym (log_before-more r s i) in
          record { adds = subst (λ l. AddsTo (sends_no_able r.setting.exercise) l (upto r s i)) log gone.adds; members = gone.members; begins = gone.begins }
      | Some u ↦ λ own next.
          let log : u ∷ log_before r s i ≡ log_before r s (suc i) =
          ap (λ o. option_map_or (λ v. v ∷ log_before r s i) o (log_before r s i)) (sym own) ∙ sym (log_before-more r s i) in
          let there : IsIn u (log_of r s) = (log_before r s i, log_before-next r s i u own) in
          record {
            adds = subst (λ l. AddsTo (sends_no_able r.setting.exercise) l (u ∷ upto r s i)) log (inr (log_before r s i, refl, gone.adds));
            members = (in_added (is_missing_send r) u (log_of r s) (log_of wide s) (given.further.logs s) there, gone.members);
            begins = grow r end s u (upto r s i) given.stuck (own_entry r s i u own).station gone.begins next
                (follow i u within own (subst (λ l. IsBeginning l part) (sym log) begins) gone);
          }
    ] refl (subst (λ l. IsBeginning (l ++ upto r s i) (log_of (repaired r) s)) shown next))

-- A LOG IS GONE as far as its entries may follow
pub reach : (r wide : PlainRecording) (h end : History) (s : ℕ) (part : History) → Given r wide h end → AllFollow r wide end s part
    → (i : ℕ) → i ≤ length r.entries → IsBeginning (log_before r s i) part → Gone r wide end s i (upto r s i)
reach r wide h end s part given follow zero le begins =
    let sends : History = shown_log r s (map made (filter is_first (missing_sends r))) in
    let is : sends ++ [] ≡ upto r s 0 = append-nil sends ∙ sym (upto_none r s) in
    subst (Gone r wide end s 0) is
    (sends_grow r wide h end s 0 [] given (filter is_first (missing_sends r))
    (filtered r 0 is_first (λ lack first. inl first) (missing_sends r) (lacked r given.no_able))
    (record {
      adds = subst (λ l. AddsTo (sends_no_able r.setting.exercise) l []) (sym (log_before-none r s)) refl;
      members = tt;
      begins = (log_at s end, append-nil (log_at s end));
    })
    (subst (λ l. IsBeginning l (log_of (repaired r) s)) (sym is) (upto_begins r s 0 le)))
reach r wide h end s part given follow (suc i) le begins =
    let sends : History = shown_log r s (map made (filter (is_after i) (missing_sends r))) in
    let is : sends ++ (shown_log r s (kept i ∷ []) ++ upto r s i) ≡ upto r s (suc i) = sym (upto_more r s i) in
    let whole : IsBeginning (sends ++ (shown_log r s (kept i ∷ []) ++ upto r s i)) (log_of (repaired r) s) =
    subst (λ l. IsBeginning l (log_of (repaired r) s)) (sym is) (upto_begins r s (suc i) le) in
    let before : IsBeginning (log_before r s i) part = earlier begins in
    let gone = reach r wide h end s part given follow i (omega (arith, le)) before in
    subst (Gone r wide end s (suc i)) is
    (sends_grow r wide h end s (suc i) (shown_log r s (kept i ∷ []) ++ upto r s i) given (filter (is_after i) (missing_sends r))
    (filtered r (suc i) (is_after i) (λ lack after. inr (i, after, omega arith)) (missing_sends r) (lacked r given.no_able))
    (entry_grows r wide h end s i part given follow (omega (arith, le)) begins gone (begins_back sends (shown_log r s (kept i ∷ []) ++ upto r s i) (log_of (repaired r) s) whole))
    whole)
  where
    earlier : IsBeginning (log_before r s (suc i)) part → IsBeginning (log_before r s i) part
    earlier begins =
        elim (own_event r s i) as (λ o. IsBeginning (option_map_or (λ v. v ∷ log_before r s i) o (log_before r s i)) part → IsBeginning (log_before r s i) part) [
          | None ↦ λ p. p
          | Some v ↦ λ p. begins_tail v (log_before r s i) part p
        ] (subst (λ l. IsBeginning l part) (log_before-more r s i) begins)
