-- Which entries have a pair or a change behind them: every answer that was sent and every Able that was received, and no other.
use Rattle.std.proofs.Common.{◌≡◌, ⊎_elim, ℕ, zero, suc, ◌<◌, ◌≤◌, List, [], ◌∷◌, ◌++◌, length, cond, Option, Some, None, Bool, true, false, refl, sym, ap, ◌∙◌, subst, arith, append_assoc}
use Rattle.std.specs.Prelude.{nat_eq, slice_get, option_and_then, ◌&&◌, ◌||◌, if◌then◌else◌}
use Rattle.std.specs.Option.{option_or, option_map_or}
use Rattle.std.specs.List.{list_any}
use Rattle.std.proofs.lemmas.List.Folds.{list_any_at}
use Rattle.std.proofs.lemmas.Bool.{cases_lt, eq-eqb}
use Rattle.siman_pdus.specs.declared.pdu.Pdu.{Pdu}
use Rattle.siman_pdus.specs.declared.pdu.Body.{Body}
use Rattle.siman_pdus.specs.declared.pdu.Body.TheVariants.{CreateEntity, RemoveEntity, StartResume, StopFreeze, Acknowledge, ActionRequest, ActionResponse, DataQuery, SetData, DataPdu, EventReport, Comment}
use Rattle.siman_pdus.specs.Answers.{same_id}
use Rattle.exercise_model.specs.declared.acknowledge.AcknowledgeKey.{AcknowledgeKey}
use Rattle.exercise_model.specs.Entry.{Entry, Sent, Received, Told}
use Rattle.exercise_model.specs.Recording.{PlainRecording, IsRecording}
use Rattle.exercise_model.specs.Station.{StationData}
use Rattle.exercise_model.specs.Setting.{nowhere, is_from, is_recorded}
use Rattle.exercise_model.specs.History.{Event, Send, Get, History, station_of, log_at, station_at}
use Rattle.exercise_model.specs.Meaning.{meaning}
use Rattle.exercise_model.specs.Exchange.{is_answer_body, request_taken_up}
use Rattle.exercise_model.specs.Change.{able, responds, key_in, key_of, response_of, same_key, responds_under, sends_under, was_acknowledged}
use Rattle.exercise_model.specs.Place.{log_before, first_below, entry_taken_up}
use Rattle.exercise_model.specs.Run.{Explains, Represents, Contains}
use Rattle.exercise_model.specs.Account.{pair_of_sent, pair_of_entry, pair_of, sender_of, sends_able, first_able, change_under, change_behind_pdu, change_behind_entry, change_behind}
use Rattle.exercise_model.specs.Pairing.{IsTakenUp, IsChangeBehind, SendsAnswer, ReceivesAble}
use Rattle.exercise_model.proofs.Changes.{log_before-all}
use Rattle.exercise_model.proofs.Confluence.{log_at-own}
use Rattle.exercise_model.proofs.Independence.{same_logs}
use Rattle.exercise_model.proofs.Sentences.{was_sent_before, had_request}
use Rattle.exercise_model.proofs.Places.{first_found, none_taken, none_sent, taken_in_log, pair_at, change_at, change_in_run}
use Rattle.exercise_model.proofs.Distinct.{one_origin}

-- where a log brings a request, an entry of it is taken up
pub taken_entry : (r : PlainRecording) (before : History) (s i : ℕ) (p q : Pdu) → log_at s before ≡ log_before r s i
    → request_taken_up r.setting.exercise (station_at r s).address p (log_at s before) ≡ Some q
    → (j : ℕ) × (entry_taken_up r s p i ≡ Some j) × IsTakenUp r before s p j
unfolding entry_taken_up
taken_entry r before s i p q logs taken =
    elim (entry_taken_up r s p i) as (λ o. entry_taken_up r s p i ≡ o → (j : ℕ) × (o ≡ Some j) × IsTakenUp r before s p j) [
      | None ↦ λ none. let nothing = none_taken r s p i none in absurd
          (cc (nothing, taken, ap (request_taken_up r.setting.exercise (station_at r s).address p) logs))
      | Some j ↦ λ some. (j, refl, taken_in_log r before s i j p logs some)
    ] refl

-- EVERY ANSWER HAS A PAIR
pub answer_paired : (r : PlainRecording) (h before : History) (s : ℕ) (b : List ℕ) (p : Pdu) (i : ℕ) → Explains r h → Contains h before (Send s b)
    → Represents r i before (Send s b) → meaning r.setting.exercise b ≡ Some p → is_answer_body p.body ≡ true
    → (j : ℕ) × (pair_of r i ≡ Some j) × IsTakenUp r before s p j
answer_paired r h before s b p i explains within stands meant answer =
    let had = had_request r h before s b p explains within meant answer in
    let found = taken_entry r before s i p had.request (same_logs r h before (Send s b) i explains within stands) had.first in
    (found.0, pair_at r s i b p stands.event meant answer ∙ found.1, found.2)

-- AND NOTHING ELSE HAS ONE
pub pair_of_answer : (r : PlainRecording) (i j : ℕ) → pair_of r i ≡ Some j → SendsAnswer r i
unfolding pair_of
pair_of_answer r i j =
    elim (slice_get r.entries i) as (λ o. slice_get r.entries i ≡ o → option_and_then (pair_of_entry r i) o ≡ Some j → SendsAnswer r i) [
      | None ↦ λ _ e. absurd (cc)
      | Some e ↦ λ at. of_entry e at
    ] refl
  where
    of_pdu : (s stamp : ℕ) (b : List ℕ) → slice_get r.entries i ≡ Some (Sent s stamp b) → (p : Pdu) → meaning r.setting.exercise b ≡ Some p → (t : Bool)
        → is_answer_body p.body ≡ t → cond t (entry_taken_up r s p i) None ≡ Some j → SendsAnswer r i
    of_pdu s stamp b at p meant false is e = absurd (cc)
    of_pdu s stamp b at p meant true is e = record { station = s; stamp = stamp; bytes = b; pdu = p; at = at; meant = meant; answer = is }

    of_sent : (s stamp : ℕ) (b : List ℕ) → slice_get r.entries i ≡ Some (Sent s stamp b) → (o : Option Pdu) → meaning r.setting.exercise b ≡ o → option_and_then
        (pair_of_sent r s i) o ≡ Some j → SendsAnswer r i
    of_sent s stamp b at None meant e = absurd (cc)
    of_sent s stamp b at (Some p) meant e = of_pdu s stamp b at p meant (is_answer_body p.body) refl e

    of_entry : (e : Entry) → slice_get r.entries i ≡ Some e → pair_of_entry r i e ≡ Some j → SendsAnswer r i
    of_entry (Sent s stamp b) at e = of_sent s stamp b at (meaning r.setting.exercise b) refl e
    of_entry (Received s stamp b) at e = absurd (cc)
    of_entry (Told s n y) at e = absurd (cc)

-- an Acknowledge has a key
key_in_body : (p : Pdu) (body : Body) → same_id (response_of body) (Some able) ≡ true → (k : AcknowledgeKey) × (key_in p body ≡ Some k)
key_in_body p (CreateEntity request) e = absurd (cc)
key_in_body p (RemoveEntity request) e = absurd (cc)
key_in_body p (StartResume real sim request) e = absurd (cc)
key_in_body p (StopFreeze real reason behaviour request) e = absurd (cc)
key_in_body p (Acknowledge flag response request) e =
    (record { flag = flag; request = request; site = p.target.site; application = p.target.application; entity = p.origin.entity }, refl)
key_in_body p (ActionRequest request action datums) e = absurd (cc)
key_in_body p (ActionResponse request status datums) e = absurd (cc)
key_in_body p (DataQuery request interval ids) e = absurd (cc)
key_in_body p (SetData request datums) e = absurd (cc)
key_in_body p (DataPdu request datums) e = absurd (cc)
key_in_body p (EventReport event datums) e = absurd (cc)
key_in_body p (Comment datums) e = absurd (cc)

pub key_itself : (k : AcknowledgeKey) → same_key k k ≡ true
key_itself k =
    rw (eq-eqb k.flag k.flag refl, eq-eqb k.request k.request refl, eq-eqb k.site k.site refl, eq-eqb k.application k.application refl, eq-eqb k.entity k.entity refl) refl

-- the first number that passes, where none below it does
pub first_is : (test : ℕ → Bool) (n j : ℕ) → j < n → test j ≡ true → ((k : ℕ) → k < j → test k ≡ false) → first_below test n ≡ Some j
unfolding first_below
first_is test zero j within passes below = absurd (omega arith)
first_is test (suc n) j within passes below =
    ⊎_elim
    (λ (less : j < n). ap (λ o. option_or o (if test n then Some n else None)) (first_is test n j less passes below))
    (λ (at : n ≤ j).
    let same : n ≡ j = omega arith in
    ap (λ o. option_or o (if test n then Some n else None)) (no_first n (λ k l. below k (omega arith))) ∙ ap (λ t. if t then Some n else None)
    (ap test same ∙ passes) ∙ ap Some same)
    (cases_lt j n)
  where
    no_first : (m : ℕ) → ((k : ℕ) → k < m → test k ≡ false) → first_below test m ≡ None
    no_first zero none = refl
    no_first (suc m) none =
        ap (λ o. option_or o (if test m then Some m else None)) (no_first m (λ k l. none k (omega arith))) ∙ ap (λ t. if t then Some m else None)
        (none m (omega arith))

off : (t : Bool) → (t ≡ true → ⊥) → t ≡ false
off true never = absurd (never refl)
off false never = refl

-- the recorded station that p comes from is found
pub sender_found : (r : PlainRecording) → IsRecording r → (p : Pdu) (t : ℕ) → t < length r.setting.stations → is_from (station_at r t).address p ≡ true
    → sender_of r p ≡ Some t
unfolding sender_of
sender_found r limits p t within own =
    first_is (λ s. is_from (station_at r s).address p) (length r.setting.stations) t within own
    (λ k below. off _ (one_origin r.setting limits.setting p k t below within own))

-- an event of a history that passes is one of its station's log
pub any_at : (test : Event → Bool) (v : Event) (later earlier : History) → test v ≡ true
    → list_any test (log_at (station_of v) (later ++ v ∷ earlier)) ≡ true
unfolding log_at
any_at test v [] earlier passes = ap (list_any test) (log_at-own v earlier) ∙ ap (λ t. t || list_any test (log_at (station_of v) earlier)) passes
any_at test v (w ∷ later) earlier passes =
    let rest = any_at test v later earlier passes in
    elim (nat_eq (station_of w) (station_of v)) as (λ b. list_any test
    (cond b (w ∷ log_at (station_of v) (later ++ v ∷ earlier)) (log_at (station_of v) (later ++ v ∷ earlier))) ≡ true) [
      | false ↦ rest
      | true ↦ elim (test w) as (λ t. (t || list_any test (log_at (station_of v) (later ++ v ∷ earlier))) ≡ true) [ true ↦ refl | false ↦ rest ]
    ]

-- a history that has an Able under a key was acknowledged under it
pub able_sent : (x : ℕ) (k : AcknowledgeKey) (h earlier : History) (t : ℕ) (b : List ℕ) → Contains h earlier (Send t b)
    → sends_under x able k (Send t b) ≡ true → was_acknowledged x able k (log_at t h) ≡ true
unfolding was_acknowledged
able_sent x k h earlier t b within sends =
    subst (λ h. list_any (sends_under x able k) (log_at t h) ≡ true) within.1 (any_at (sends_under x able k) (Send t b) within.0 earlier sends)

able_found : (r : PlainRecording) (h earlier : History) (t : ℕ) (k : AcknowledgeKey) (b : List ℕ) → Explains r h → Contains h earlier (Send t b)
    → sends_under r.setting.exercise able k (Send t b) ≡ true → (j : ℕ) × (first_able r k t ≡ Some j)
unfolding first_able
able_found r h earlier t k b explains within sends =
    let sent = able_sent r.setting.exercise k h earlier t b within sends in
    let whole : log_before r t (length r.entries) ≡ log_at t h = log_before-all r t ∙ sym (explains.logs t) in
    elim (first_below (sends_able r t k) (length r.entries)) as (λ o. first_below (sends_able r t k) (length r.entries) ≡ o → (j : ℕ) × (o ≡ Some j)) [
      | None ↦ λ none. let nothing = none_sent r t k (length r.entries) none in absurd
          (cc (nothing, sent, ap (was_acknowledged r.setting.exercise able k) whole))
      | Some j ↦ λ _. (j, refl)
    ] refl

pub contains_on : (h before earlier : History) (v w : Event) → Contains h before w → Contains before earlier v → Contains h earlier v
contains_on h before earlier v w one other =
    (one.0 ++ w ∷ other.0, append_assoc one.0 (w ∷ other.0) (v ∷ earlier) ∙ ap (λ xs. one.0 ++ w ∷ xs) other.1 ∙ one.1)

-- EVERY ABLE RECEIVED FROM A RECORDED STATION HAS A CHANGE BEHIND IT
pub able_changed : (r : PlainRecording) (h before : History) (s : ℕ) (b : List ℕ) (p : Pdu) (i : ℕ) → IsRecording r → Explains r h
    → Contains h before (Get s b) → Represents r i before (Get s b) → meaning r.setting.exercise b ≡ Some p
    → responds able p ≡ true → is_recorded r.setting p ≡ true → (j : ℕ) × (change_behind r i ≡ Some j) × IsChangeBehind r h p j
able_changed r h before s b p i limits explains within stands meant is_able known =
    let x = r.setting.exercise in
    let sent = was_sent_before r h before s b p limits explains within meant known in
    let t = sent.station in
    let key = key_in_body p p.body is_able in
    let k = key.0 in
    let sender = sender_found r limits p t sent.recorded sent.own in
    let under : responds_under able k p ≡ true = ap (λ c. c && option_map_or (same_key k) (key_of p) false) is_able ∙ ap
    (λ o. option_map_or (same_key k) o false) key.1 ∙ key_itself k in
    let sends : sends_under x able k (Send t b) ≡ true = ap (λ o. option_map_or (responds_under able k) o false) meant ∙ under in
    let found = able_found r h sent.earlier t k b explains (contains_on h before sent.earlier (Send t b) (Get s b) within sent.sent) sends in
    let change : change_behind r i ≡ Some found.0 =
    change_at r s i b p stands.event meant
    ∙ ap (λ c. if c then option_and_then (change_under r p) (key_of p) else None) is_able
    ∙ ap (option_and_then (change_under r p)) key.1
    ∙ ap (option_and_then (first_able r k)) sender
    ∙ found.1 in
    (found.0, change, change_in_run r h before s b p i found.0 explains within stands meant change)

-- a station that is found is recorded
pub sender_recorded : (r : PlainRecording) (p : Pdu) (t : ℕ) → sender_of r p ≡ Some t → is_recorded r.setting p ≡ true
unfolding sender_of is_recorded
sender_recorded r p t found =
    let first = first_found (λ s. is_from (station_at r s).address p) (length r.setting.stations) t found in
    list_any_at (λ (o : StationData). is_from o.address p) r.setting.stations t nowhere first.below first.passes

-- AND NOTHING ELSE HAS ONE
pub change_of_able : (r : PlainRecording) (i j : ℕ) → change_behind r i ≡ Some j → ReceivesAble r i
unfolding change_behind
change_of_able r i j =
    elim (slice_get r.entries i) as (λ o. slice_get r.entries i ≡ o → option_and_then (change_behind_entry r) o ≡ Some j → ReceivesAble r i) [
      | None ↦ λ _ e. absurd (cc)
      | Some e ↦ λ at. of_entry e at
    ] refl
  where
    of_sender : (p : Pdu) (k : AcknowledgeKey) (o : Option ℕ) → sender_of r p ≡ o → option_and_then (first_able r k) o ≡ Some j → is_recorded r.setting p ≡ true
    of_sender p k None found e = absurd (cc)
    of_sender p k (Some t) found e = sender_recorded r p t found

    of_key : (p : Pdu) (o : Option AcknowledgeKey) → option_and_then (change_under r p) o ≡ Some j → is_recorded r.setting p ≡ true
    of_key p None e = absurd (cc)
    of_key p (Some k) e = of_sender p k (sender_of r p) refl e

    of_pdu : (s stamp : ℕ) (b : List ℕ) → slice_get r.entries i ≡ Some (Received s stamp b) → (p : Pdu) → meaning r.setting.exercise b ≡ Some p → (t : Bool)
        → responds able p ≡ t → cond t (option_and_then (change_under r p) (key_of p)) None ≡ Some j → ReceivesAble r i
    of_pdu s stamp b at p meant false is e = absurd (cc)
    of_pdu s stamp b at p meant true is e = record {
      station = s;
      stamp = stamp;
      bytes = b;
      pdu = p;
      at = at;
      meant = meant;
      is_able = is;
      recorded = of_key p
          (key_of p) e;
    }

    of_got : (s stamp : ℕ) (b : List ℕ) → slice_get r.entries i ≡ Some (Received s stamp b) → (o : Option Pdu) → meaning r.setting.exercise b ≡ o
        → option_and_then (change_behind_pdu r) o ≡ Some j → ReceivesAble r i
    of_got s stamp b at None meant e = absurd (cc)
    of_got s stamp b at (Some p) meant e = of_pdu s stamp b at p meant (responds able p) refl e

    of_entry : (e : Entry) → slice_get r.entries i ≡ Some e → change_behind_entry r e ≡ Some j → ReceivesAble r i
    of_entry (Sent s stamp b) at e = absurd (cc)
    of_entry (Received s stamp b) at e = of_got s stamp b at (meaning r.setting.exercise b) refl e
    of_entry (Told s n y) at e = absurd (cc)
