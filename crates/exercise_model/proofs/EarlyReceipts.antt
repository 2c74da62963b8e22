-- A receipt that stands earlier in a log gives no event of it a cause.
use Rattle.std.proofs.Common.{◌≡◌, ℕ, List, [], ◌∷◌, ◌++◌, cond, Option, Some, None, Bool, true, false, refl, sym, ap, subst, ◌∙◌}
use Rattle.std.specs.Prelude.{◌↔◌, ◌&&◌, ◌||◌, not, is_none, nat_eq, option_and_then, if◌then◌else◌}
use Rattle.std.specs.Option.{option_map_or, option_or}
use Rattle.std.proofs.lemmas.Bool.{eqb-true, eq-eqb}
use Rattle.siman_pdus.specs.declared.pdu.Pdu.{Pdu}
use Rattle.siman_pdus.specs.Role.{is_request_body}
use Rattle.siman_pdus.specs.Answers.{is_answer_to}
use Rattle.exercise_model.specs.declared.cause.Cause.{Cause}
use Rattle.exercise_model.specs.declared.cause.Cause.TheVariants.{WrongSender, ReusedIdentifier, NoRequest, WrongAnswer, ChangedAnswer, Impossible}
use Rattle.exercise_model.specs.Station.{StationData}
use Rattle.exercise_model.specs.Setting.{SettingData, is_from, station_in}
use Rattle.exercise_model.specs.History.{Event, Send, Get, Tell, History, station_of, log_at}
use Rattle.exercise_model.specs.Meaning.{meaning}
use Rattle.exercise_model.specs.Exchange.{is_answer_body, request_brought, request_taken_up}
use Rattle.exercise_model.specs.Change.{able, responds, sends_under, was_acknowledged, is_change}
use Rattle.exercise_model.specs.State.{carried_out, change_by, change_made, changed, entity_state, state_after}
use Rattle.exercise_model.specs.Cause.{first_cause, sends_other, is_reused, is_changed_answer, is_impossible, send_cause, tell_rows, cause_of, IsAllowed}
use Rattle.exercise_model.specs.Run.{IsRun}
use Rattle.exercise_model.specs.OwnLog.{own_log_cause, IsSoundLog, AreReceiptsAllowed}
use Rattle.exercise_model.proofs.Carrying.{able_is_answer}
use Rattle.exercise_model.proofs.AlikeLogs.{HaveSameExchanges, AreAlikeLogs, sent_alike, state_alike, sending_alike}

-- ---- the datagram that is sent behind a receipt in place of before it

-- the causes against p, by what it is and the request that it takes up
rows : ℕ → StationData → History → Pdu → Bool → Option Pdu → Option Cause
rows x o log p answer request =
    first_cause (
    (not (is_from o.address p), WrongSender)
    ∷ (is_request_body p.body && is_reused x p log, ReusedIdentifier)
    ∷ (answer && is_none request, NoRequest)
    ∷ (answer && not (option_map_or (is_answer_to p) request false), WrongAnswer)
    ∷ (answer && is_changed_answer x p log, ChangedAnswer)
    ∷ (answer && option_map_or (is_impossible x o log p) request false, Impossible)
    ∷ []
    )

as_rows : (x : ℕ) (o : StationData) (log : History) (p : Pdu)
    → send_cause x o log p ≡ rows x o log p (is_answer_body p.body) (request_taken_up x o.address p log)
unfolding send_cause rows
as_rows x o log p = refl

-- but for the request that it takes up, a receipt says nothing against what is sent behind it
rows_behind : (x : ℕ) (o : StationData) (log : History) (p : Pdu) (t : ℕ) (c : List ℕ) (answer : Bool) (request : Option Pdu)
    → rows x o (Get t c ∷ log) p answer request ≡ rows x o log p answer request
unfolding rows is_reused is_changed_answer is_impossible was_acknowledged is_change state_after entity_state
rows_behind x o log p t c answer request = refl

-- an answer that takes up no request has a cause
none_refused : (x : ℕ) (o : StationData) (log : History) (p : Pdu) → rows x o log p true None ≡ None → ⊥
unfolding rows
none_refused x o log p =
    elim (not (is_from o.address p)) as (λ a. (if a then Some WrongSender else
    (if is_request_body p.body && is_reused x p log then Some ReusedIdentifier else Some NoRequest)) ≡ None → ⊥) [
      | true ↦ λ e. absurd (cc)
      | false ↦ elim (is_request_body p.body && is_reused x p log) as (λ b. (if b then Some ReusedIdentifier else Some NoRequest) ≡ None → ⊥) [
        | true ↦ λ e. absurd (cc)
        | false ↦ λ e. absurd (cc)
      ]
    ]

-- an answer that has no cause takes up the same request behind a receipt
taken_behind : (x : ℕ) (o : StationData) (log : History) (p : Pdu) (t : ℕ) (c : List ℕ) → is_answer_body p.body ≡ true → send_cause x o log p ≡ None
    → request_taken_up x o.address p (Get t c ∷ log) ≡ request_taken_up x o.address p log
unfolding request_taken_up
taken_behind x o log p t c answer allowed =
    elim (request_taken_up x o.address p log) as (λ r. rows x o log p true r ≡ None → option_or r (request_brought x o.address p (Get t c)) ≡ r) [
      | None ↦ λ none. absurd (none_refused x o log p none)
      | Some q ↦ λ _. refl
    ] (ap (λ a. rows x o log p a (request_taken_up x o.address p log)) (sym answer) ∙ sym (as_rows x o log p) ∙ allowed)

-- what is no answer takes up nothing
no_answer : (x : ℕ) (o : StationData) (log : History) (p : Pdu) (q r : Option Pdu) → rows x o log p false q ≡ rows x o log p false r
unfolding rows
no_answer x o log p q r = refl

-- WHAT MAY BE SENT MAY BE SENT BEHIND A RECEIPT
send_behind : (x : ℕ) (o : StationData) (log : History) (p : Pdu) (t : ℕ) (c : List ℕ) → send_cause x o log p ≡ None
    → send_cause x o (Get t c ∷ log) p ≡ None
send_behind x o log p t c allowed =
    let old = request_taken_up x o.address p log in
    let new = request_taken_up x o.address p (Get t c ∷ log) in
    as_rows x o (Get t c ∷ log) p ∙ rows_behind x o log p t c (is_answer_body p.body) new
    ∙ elim (is_answer_body p.body) as (λ a. is_answer_body p.body ≡ a → rows x o log p a new ≡ rows x o log p a old) [
      | true ↦ λ answer. ap (rows x o log p true) (taken_behind x o log p t c answer allowed)
      | false ↦ λ _. no_answer x o log p new old
    ] refl
    ∙ sym (as_rows x o log p) ∙ allowed

sending_behind : (x : ℕ) (o : StationData) (log : History) (t : ℕ) (b c : List ℕ) → option_and_then (send_cause x o log) (meaning x b) ≡ None
    → option_and_then (send_cause x o (Get t c ∷ log)) (meaning x b) ≡ None
sending_behind x o log t b c =
    elim (meaning x b) as (λ m. option_and_then (send_cause x o log) m ≡ None → option_and_then (send_cause x o (Get t c ∷ log)) m ≡ None) [
      | None ↦ λ _. refl
      | Some p ↦ send_behind x o log p t c
    ]

-- a receipt is no Acknowledge that is sent
change_behind_receipt : (x : ℕ) (log : History) (p : Pdu) (t : ℕ) (c : List ℕ) → is_change x p (Get t c ∷ log) ≡ is_change x p log
unfolding is_change was_acknowledged
change_behind_receipt x log p t c = refl

not_able : (x : ℕ) (log : History) (p : Pdu) → responds able p ≡ false → is_change x p log ≡ false
unfolding is_change
not_able x log p is_not = rw is_not refl

-- and what may be sent makes the same change behind it
change_behind : (x : ℕ) (o : StationData) (log : History) (b : List ℕ) (p : Pdu) (t : ℕ) (c : List ℕ) → meaning x b ≡ Some p
    → send_cause x o log p ≡ None → change_by x o (Get t c ∷ log) p ≡ change_by x o log p
unfolding change_by
change_behind x o log b p t c meant allowed =
    let Made : Bool → Option Pdu → Type 0 = λ change q. (if change then option_and_then (carried_out p) q else None)
    ≡ (if change then option_and_then (carried_out p) (request_taken_up x o.address p log) else None) in
    ap (λ change. if change then option_and_then (carried_out p) (request_taken_up x o.address p (Get t c ∷ log)) else None)
    (change_behind_receipt x log p t c)
    ∙ elim (responds able p) as (λ a. responds able p ≡ a → Made (is_change x p log) (request_taken_up x o.address p (Get t c ∷ log))) [
      | true ↦ λ is_able. ap (λ q. if is_change x p log then option_and_then (carried_out p) q else None)
          (taken_behind x o log p t c (able_is_answer x b p meant is_able) allowed)
      | false ↦ λ is_not. subst (λ change. Made change (request_taken_up x o.address p (Get t c ∷ log))) (sym (not_able x log p is_not)) refl
    ] refl

made_behind : (x : ℕ) (o : StationData) (log : History) (t : ℕ) (b c : List ℕ) → option_and_then (send_cause x o log) (meaning x b) ≡ None
    → option_and_then (change_by x o (Get t c ∷ log)) (meaning x b) ≡ option_and_then (change_by x o log) (meaning x b)
made_behind x o log t b c =
    elim (meaning x b) as (λ m. meaning x b ≡ m → option_and_then (send_cause x o log) m ≡ None
    → option_and_then (change_by x o (Get t c ∷ log)) m ≡ option_and_then (change_by x o log) m) [
      | None ↦ λ _ _. refl
      | Some p ↦ λ meant allowed. change_behind x o log b p t c meant allowed
    ] refl

-- ---- the two, in one order and in the other

or_none_between : (q r : Option Pdu) → option_or (option_or q r) None ≡ option_or (option_or q None) r
or_none_between None None = refl
or_none_between None (Some r) = refl
or_none_between (Some q) r = refl

swapped_exchanges : (x : ℕ) (o : StationData) (log : History) (s t : ℕ) (b c : List ℕ)
    → HaveSameExchanges x o (Send s b ∷ Get t c ∷ log) (Get t c ∷ Send s b ∷ log)
unfolding is_reused was_acknowledged request_taken_up
swapped_exchanges x o log s t b c = record {
  reused = λ p. refl;
  acknowledged = λ response key. refl;
  taken = λ p. or_none_between (request_taken_up x o.address p log) (request_brought x o.address p (Get t c));
}

swapped_state : (x : ℕ) (o : StationData) (log : History) (s t : ℕ) (b c : List ℕ) → own_log_cause x o log (Send s b) ≡ None
    → (e : ℕ) → entity_state x o (Send s b ∷ Get t c ∷ log) e ≡ entity_state x o (Get t c ∷ Send s b ∷ log) e
unfolding entity_state
swapped_state x o log s t b c allowed e =
    ap (λ made. option_map_or (changed e (entity_state x o log e)) made (entity_state x o log e)) (made_behind x o log t b c allowed)

swapped : (x : ℕ) (o : StationData) (log : History) (s t : ℕ) (b c : List ℕ) → own_log_cause x o log (Send s b) ≡ None
    → AreAlikeLogs x o (Send s b ∷ Get t c ∷ log) (Get t c ∷ Send s b ∷ log)
swapped x o log s t b c allowed =
    record { exchanges = swapped_exchanges x o log s t b c; state = swapped_state x o log s t b c allowed }

-- ---- what stands behind logs that are alike

next_exchanges : (x : ℕ) (o : StationData) (k l : History) (v : Event) → HaveSameExchanges x o k l → HaveSameExchanges x o (v ∷ k) (v ∷ l)
unfolding is_reused was_acknowledged request_taken_up
next_exchanges x o k l v same = record {
  reused = λ p. ap (λ b. sends_other x p v || b) (same.reused p);
  acknowledged = λ response key. ap (λ b. sends_under x response key v || b) (same.acknowledged response key);
  taken = λ p. ap (λ q. option_or q (request_brought x o.address p v)) (same.taken p);
}

made_alike : (x : ℕ) (o : StationData) (k l : History) (v : Event) → HaveSameExchanges x o k l → change_made x o k v ≡ change_made x o l v
made_alike x o k l (Send s b) same = sent_alike x o k l same b
made_alike x o k l (Get s b) same = refl
made_alike x o k l (Tell s e y) same = refl

next_alike : (x : ℕ) (o : StationData) (k l : History) (v : Event) → AreAlikeLogs x o k l → AreAlikeLogs x o (v ∷ k) (v ∷ l)
unfolding entity_state
next_alike x o k l v alike = record {
  exchanges = next_exchanges x o k l v alike.exchanges;
  state = λ e. ap (λ y. option_map_or (changed e y) (change_made x o k v) y) (alike.state e)
      ∙ ap (λ made. option_map_or (changed e (entity_state x o l e)) made (entity_state x o l e)) (made_alike x o k l v alike.exchanges);
}

cause_alike : (x : ℕ) (o : StationData) (k l : History) (v : Event) → AreAlikeLogs x o k l → own_log_cause x o k v ≡ own_log_cause x o l v
cause_alike x o k l (Send s b) alike = sending_alike x o k l alike b
cause_alike x o k l (Get s b) alike = refl
cause_alike x o k l (Tell s e y) alike = ap (λ state. first_cause (tell_rows y state)) (state_alike x o k l alike e)

-- ---- the law

-- what stands before the two, and the datagram sent then, are sound
sound_before : (x : ℕ) (o : StationData) (later before : History) (s t : ℕ) (b c : List ℕ) → IsSoundLog x o (later ++ Get t c ∷ Send s b ∷ before)
    → IsSoundLog x o (Send s b ∷ before)
sound_before x o [] before s t b c sound = sound.0
sound_before x o (v ∷ later) before s t b c sound = sound_before x o later before s t b c sound.0

later_alike : (x : ℕ) (o : StationData) (later before : History) (s t : ℕ) (b c : List ℕ) → own_log_cause x o before (Send s b) ≡ None
    → AreAlikeLogs x o (later ++ Send s b ∷ Get t c ∷ before) (later ++ Get t c ∷ Send s b ∷ before)
later_alike x o [] before s t b c allowed = swapped x o before s t b c allowed
later_alike x o (v ∷ later) before s t b c allowed =
    next_alike x o (later ++ Send s b ∷ Get t c ∷ before) (later ++ Get t c ∷ Send s b ∷ before) v (later_alike x o later before s t b c allowed)

-- EARLY RECEIPTS ARE ALLOWED
pub early_sound : (x : ℕ) (o : StationData) (later before : History) (s t : ℕ) (b c : List ℕ) → IsSoundLog x o (later ++ Get t c ∷ Send s b ∷ before)
    → IsSoundLog x o (later ++ Send s b ∷ Get t c ∷ before)
early_sound x o [] before s t b c sound =
    ((sound.0.0, refl), sending_behind x o before t b c sound.0.1)
early_sound x o (v ∷ later) before s t b c sound =
    let alike = later_alike x o later before s t b c (sound_before x o later before s t b c sound.0).1 in (
      early_sound x o later before s t b c sound.0,
      cause_alike x o (later ++ Send s b ∷ Get t c ∷ before) (later ++ Get t c ∷ Send s b ∷ before) v alike ∙ sound.1,
    )

pub early_states : (x : ℕ) (o : StationData) (later before : History) (s t : ℕ) (b c : List ℕ) → IsSoundLog x o (later ++ Get t c ∷ Send s b ∷ before)
    → (e : ℕ) → state_after x o (later ++ Send s b ∷ Get t c ∷ before) e ≡ state_after x o (later ++ Get t c ∷ Send s b ∷ before) e
early_states x o later before s t b c sound e =
    state_alike x o (later ++ Send s b ∷ Get t c ∷ before) (later ++ Get t c ∷ Send s b ∷ before)
    (later_alike x o later before s t b c (sound_before x o later before s t b c sound).1) e

-- ---- sound logs and runs

-- what is no receipt is allowed where its station's own log says nothing against it
own_cause_is : (w : SettingData) (h : History) (v : Event) → IsAllowed w h v
    → own_log_cause w.exercise (station_in w (station_of v)) (log_at (station_of v) h) v ≡ None
unfolding cause_of
own_cause_is w h (Send s b) allowed = allowed
own_cause_is w h (Get s b) allowed = refl
own_cause_is w h (Tell s e y) allowed = allowed

-- the log of a station after one more event
log_next : (s : ℕ) (v : Event) (h : History) (P : History → Type 0) → (station_of v ≡ s → P (v ∷ log_at s h)) → P (log_at s h) → P (log_at s (v ∷ h))
unfolding log_at
log_next s v h P own other =
    elim (nat_eq (station_of v) s) as (λ b. nat_eq (station_of v) s ≡ b → P (cond b (v ∷ log_at s h) (log_at s h))) [
      | true ↦ λ same. own (eqb-true _ _ same)
      | false ↦ λ _. other
    ] refl

run_sound : (w : SettingData) (h : History) → IsRun w h → (s : ℕ) → IsSoundLog w.exercise (station_in w s) (log_at s h)
unfolding log_at
run_sound w [] run s = tt
run_sound w (v ∷ h) run s =
    log_next s v h (IsSoundLog w.exercise (station_in w s))
    (λ own. (
      run_sound w h run.0 s,
      subst (λ n. own_log_cause w.exercise (station_in w n) (log_at n h) v ≡ None) own (own_cause_is w h v run.1),
    ))
    (run_sound w h run.0 s)

run_receipts : (w : SettingData) (h : History) → IsRun w h → AreReceiptsAllowed w h
run_receipts w [] run = tt
run_receipts w (Send s b ∷ h) run = run_receipts w h run.0
run_receipts w (Get s b ∷ h) run = (run_receipts w h run.0, run.1)
run_receipts w (Tell s e y ∷ h) run = run_receipts w h run.0

-- what was sound before the last event
sound_tail : (w : SettingData) (v : Event) (h : History) (s : ℕ) → IsSoundLog w.exercise (station_in w s) (log_at s (v ∷ h))
    → IsSoundLog w.exercise (station_in w s) (log_at s h)
unfolding log_at
sound_tail w v h s =
    elim (nat_eq (station_of v) s) as (λ b. IsSoundLog w.exercise (station_in w s) (cond b (v ∷ log_at s h) (log_at s h))
    → IsSoundLog w.exercise (station_in w s) (log_at s h)) [
      | true ↦ λ sound. sound.0
      | false ↦ λ sound. sound
    ]

-- and what the log says against the last event itself
sound_last : (w : SettingData) (v : Event) (h : History) → IsSoundLog w.exercise (station_in w (station_of v)) (log_at (station_of v) (v ∷ h))
    → own_log_cause w.exercise (station_in w (station_of v)) (log_at (station_of v) h) v ≡ None
unfolding log_at
sound_last w v h sound =
    let s : ℕ = station_of v in
    let whole : IsSoundLog w.exercise (station_in w s) (v ∷ log_at s h) =
    subst (λ b. IsSoundLog w.exercise (station_in w s) (cond b (v ∷ log_at s h) (log_at s h))) (eq-eqb s s refl) sound in
    whole.1

sound_run : (w : SettingData) (h : History) → ((s : ℕ) → IsSoundLog w.exercise (station_in w s) (log_at s h)) → AreReceiptsAllowed w h → IsRun w h
unfolding cause_of
sound_run w [] sound receipts = tt
sound_run w (Send s b ∷ h) sound receipts =
    (sound_run w h (λ n. sound_tail w (Send s b) h n (sound n)) receipts, sound_last w (Send s b) h (sound s))
sound_run w (Get s b ∷ h) sound receipts = (sound_run w h (λ n. sound_tail w (Get s b) h n (sound n)) receipts.0, receipts.1)
sound_run w (Tell s e y ∷ h) sound receipts =
    (sound_run w h (λ n. sound_tail w (Tell s e y) h n (sound n)) receipts, sound_last w (Tell s e y) h (sound s))

pub run_is : (w : SettingData) (h : History)
    → IsRun w h ↔ (((s : ℕ) → IsSoundLog w.exercise (station_in w s) (log_at s h)) × AreReceiptsAllowed w h)
run_is w h = (λ run. (run_sound w h run, run_receipts w h run), λ both. sound_run w h both.0 both.1)
