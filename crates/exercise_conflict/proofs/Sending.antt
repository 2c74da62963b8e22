-- What a station may send after a log that has other sends in it than the log after which it sent it.
use Rattle.std.proofs.Common.{◌≡◌, ◌⊎◌, inl, inr, ⊎_elim, ℕ, ◌<◌, ◌≤◌, List, [], ◌∷◌, ◌++◌, length, cond, Bool, true, false, Option, Some, None, refl, sym, ap, ◌∙◌, subst, arith}
use Rattle.std.specs.Prelude.{nat_eq, ◌&&◌, ◌||◌, not, is_none, option_and_then, if◌then◌else◌}
use Rattle.std.specs.Option.{option_map_or}
use Rattle.std.specs.List.{list_any}
use Rattle.std.proofs.lemmas.Bool.{eqb-true, or_cases}
use Rattle.siman_pdus.specs.declared.pdu.Pdu.{Pdu}
use Rattle.siman_pdus.specs.Role.{is_request_body}
use Rattle.siman_pdus.specs.Answers.{is_answer_to}
use Rattle.exercise_model.specs.declared.acknowledge.AcknowledgeKey.{AcknowledgeKey}
use Rattle.exercise_model.specs.Recording.{PlainRecording}
use Rattle.exercise_model.specs.History.{Event, Send, Get, Tell, History, station_of, log_at, log_of, station_at}
use Rattle.exercise_model.specs.Setting.{is_from}
use Rattle.exercise_model.specs.Meaning.{meaning}
use Rattle.exercise_model.specs.Exchange.{is_answer_body, request_taken_up}
use Rattle.exercise_model.specs.Change.{able, unable, responds, key_of, responds_under, sends_under, was_acknowledged}
use Rattle.exercise_model.specs.Cause.{is_other_order, sends_other, is_reused, is_changed_answer, is_impossible, send_cause}
use Rattle.exercise_model.specs.Run.{Explains, Contains}
use Rattle.exercise_conflict.specs.Repair.{Every}
use Rattle.exercise_conflict.proofs.Compatible.{WasAllowed, was_allowed, no_other, AreOpposite, under_key, no_opposite}
use Rattle.exercise_conflict.proofs.Members.{IsIn, none_among}
use Rattle.exercise_conflict.proofs.Rows.{chain}

-- ---- what stands in the log of a station is one of its events

pub all_own : (s : ℕ) (h : History) → Every (λ v. station_of v ≡ s) (log_at s h)
unfolding log_at
all_own s [] = tt
all_own s (v ∷ h) =
    elim (nat_eq (station_of v) s) as (λ b. nat_eq (station_of v) s ≡ b → Every (λ v. station_of v ≡ s) (cond b (v ∷ log_at s h) (log_at s h))) [
      | true ↦ λ same. (eqb-true _ _ same, all_own s h)
      | false ↦ λ _. all_own s h
    ] refl

pub all_in : (P : Event → Type 0) (h : History) (v : Event) → Every P h → IsIn v h → P v
all_in P h v all found = after found.1.0 (subst (Every P) (sym found.1.1) all)
  where
    after : (later : History) → Every P (later ++ v ∷ found.0) → P v
    after [] all = all.0
    after (w ∷ later) all = after later all.1

pub own_in : (r : PlainRecording) (s : ℕ) (v : Event) → IsIn v (log_of r s) → station_of v ≡ s
unfolding log_of
own_in r s v found = all_in (λ v. station_of v ≡ s) (log_of r s) v (all_own s _) found

-- some event of a history passes
pub some_of : (f : Event → Bool) (P : Event → Type 0) (h : History) → Every P h → list_any f h ≡ true → (v : Event) × P v × (f v ≡ true)
some_of f P [] all e = absurd (cc)
some_of f P (v ∷ h) all e =
    ⊎_elim (λ (here : f v ≡ true). (v, all.0, here)) (λ (there : list_any f h ≡ true). some_of f P h all.1 there) (or_cases _ _ e)

-- ---- the rows

none_chain : (a b c d e f : Bool) → a ≡ false → b ≡ false → c ≡ false → d ≡ false → e ≡ false → f ≡ false → chain a b c d e f ≡ None
none_chain a b c d e f one two three four five six = rw (one, two, three, four, five, six) refl

-- where a test holds only if another does, and that cannot be, it does not
and_unless : (a f : Bool) → (a ≡ true → f ≡ true → ⊥) → (a && f) ≡ false
and_unless true true never = absurd (never refl refl)
and_unless true false never = refl
and_unless false f never = refl

-- no event of the log sends another order
none_other : (r wide : PlainRecording) (h : History) (s : ℕ) (b : List ℕ) (p : Pdu) → wide.setting ≡ r.setting → Explains wide h
    → meaning r.setting.exercise b ≡ Some p → IsIn (Send s b) (log_of wide s) → is_request_body p.body ≡ true
    → (v : Event) → IsIn v (log_of wide s) → sends_other r.setting.exercise p v ≡ false
none_other r wide h s b p setting explains meant at request (Get t c) found = refl
none_other r wide h s b p setting explains meant at request (Tell t e y) found = refl
none_other r wide h s b p setting explains meant at request (Send t c) found =
    let own : t ≡ s = own_in wide s (Send t c) found in
    elim (meaning r.setting.exercise c) as (λ o. meaning r.setting.exercise c ≡ o → option_map_or (is_other_order p) o false ≡ false) [
      | None ↦ λ _. refl
      | Some q ↦ λ other.
          ap (λ t. t && is_other_order p q) (sym request)
          ∙ no_other r wide h s b c p q setting explains meant other at (subst (λ k. IsIn (Send k c) (log_of wide s)) own found)
    ] refl

-- what an event that is sent under a key means
sent_under : (x response : ℕ) (k : AcknowledgeKey) (v : Event) → sends_under x response k v ≡ true
    → (t : ℕ) × (c : List ℕ) × (q : Pdu) × (v ≡ Send t c) × (meaning x c ≡ Some q) × (responds_under response k q ≡ true)
sent_under x response k (Get t c) e = absurd (cc)
sent_under x response k (Tell t n y) e = absurd (cc)
sent_under x response k (Send t c) e =
    elim (meaning x c) as (λ o. meaning x c ≡ o → option_map_or (responds_under response k) o false ≡ true
    → (u : ℕ) × (d : List ℕ) × (q : Pdu) × (Send t c ≡ Send u d) × (meaning x d ≡ Some q) × (responds_under response k q ≡ true)) [
      | None ↦ λ _ e. absurd (cc)
      | Some q ↦ λ meant e. (t, c, q, refl, meant, e)
    ] refl e

-- and none the opposite answer
none_opposite : (r wide : PlainRecording) (h : History) (s : ℕ) (b : List ℕ) (p : Pdu) (log : History) → wide.setting ≡ r.setting → Explains wide h
    → meaning r.setting.exercise b ≡ Some p → IsIn (Send s b) (log_of wide s) → is_answer_body p.body ≡ true
    → Every (λ v. IsIn v (log_of wide s)) log → is_changed_answer r.setting.exercise p log ≡ true → ⊥
unfolding is_changed_answer was_acknowledged
none_opposite r wide h s b p log setting explains meant at answer all changed = of_key (key_of p) refl changed
  where
    of_sent : (k : AcknowledgeKey) → key_of p ≡ Some k → (mine other : ℕ)
        → ((q : Pdu) → responds other q ≡ true → key_of q ≡ Some k → AreOpposite p q)
        → list_any (sends_under r.setting.exercise other k) log ≡ true → ⊥
    of_sent k is mine other opposite some =
        let found = some_of (sends_under r.setting.exercise other k) (λ v. IsIn v (log_of wide s)) log all some in
        let sent = sent_under r.setting.exercise other k found.0 found.2 in
        let there : IsIn (Send sent.0 sent.1) (log_of wide s) = subst (λ v. IsIn v (log_of wide s)) sent.3 found.1 in
        let own : sent.0 ≡ s = own_in wide s (Send sent.0 sent.1) there in
        let under = under_key other k sent.2 sent.5 in
        no_opposite r wide h s b sent.1 p sent.2 setting explains meant sent.4 at (subst (λ t. IsIn (Send t sent.1) (log_of wide s)) own there) answer
        (opposite sent.2 under.0 under.1)

    both : (a b : Bool) → (a && b) ≡ true → (a ≡ true) × (b ≡ true)
    both true b e = (refl, e)
    both false b e = absurd (cc)

    of_key : (o : Option AcknowledgeKey) → key_of p ≡ o
        → option_map_or (λ k. (responds able p && list_any (sends_under r.setting.exercise unable k) log) || (responds unable p && list_any (sends_under r.setting.exercise able k) log)) o false ≡ true → ⊥
    of_key None is e = absurd (cc)
    of_key (Some k) is e =
        ⊎_elim
        (λ (first : (responds able p && list_any (sends_under r.setting.exercise unable k) log) ≡ true).
        let parts = both (responds able p) (list_any (sends_under r.setting.exercise unable k) log) first in
        of_sent k is able unable (λ q other key. record { key = k; one = is; other = key; apart = inl (parts.0, other) }) parts.1)
        (λ (second : (responds unable p && list_any (sends_under r.setting.exercise able k) log) ≡ true).
        let parts = both (responds unable p) (list_any (sends_under r.setting.exercise able k) log) second in
        of_sent k is unable able (λ q other key. record { key = k; one = is; other = key; apart = inr (parts.0, other) }) parts.1)
        (or_cases _ _ e)

asked_same : (a : Bool) (o q : Option Pdu) → (a ≡ true → q ≡ o) → (f : Option Pdu → Bool) → (a && f o) ≡ false → (a && f q) ≡ false
asked_same true o q same f e = ap f (same refl) ∙ e
asked_same false o q same f e = refl

-- A SEND MAY FOLLOW a log whose events all stand in that of the run, where it takes up the same request and makes the same change as it did
pub may_send : (r wide : PlainRecording) (h : History) (s : ℕ) (b : List ℕ) (p : Pdu) (log k : History) → wide.setting ≡ r.setting → Explains wide h
    → meaning r.setting.exercise b ≡ Some p → Contains (log_of wide s) log (Send s b) → Every (λ v. IsIn v (log_of wide s)) k
    → (is_answer_body p.body ≡ true → request_taken_up r.setting.exercise (station_at r s).address p k ≡ request_taken_up r.setting.exercise (station_at r s).address p log)
    → ((q : Pdu) → is_impossible r.setting.exercise (station_at r s) k p q ≡ is_impossible r.setting.exercise (station_at r s) log p q)
    → send_cause r.setting.exercise (station_at r s) k p ≡ None
unfolding send_cause is_reused
may_send r wide h s b p log k setting explains meant within all taken possible =
    let x : ℕ = r.setting.exercise in
    let o = station_at r s in
    let was = was_allowed r wide h s b p log setting explains meant within in
    let at : IsIn (Send s b) (log_of wide s) = (log, within) in
    none_chain (not (is_from o.address p)) (is_request_body p.body && list_any (sends_other x p) k)
    (is_answer_body p.body && is_none (request_taken_up x o.address p k))
    (is_answer_body p.body && not (option_map_or (is_answer_to p) (request_taken_up x o.address p k) false))
    (is_answer_body p.body && is_changed_answer x p k)
    (is_answer_body p.body && option_map_or (is_impossible x o k p) (request_taken_up x o.address p k) false)
    was.sender
    (and_unless (is_request_body p.body) (list_any (sends_other x p) k)
    (λ request some. absurd (cc (sym some ∙ none_among (sends_other x p) (log_of wide s) k (none_other r wide h s b p setting explains meant at request) all))))
    (asked_same (is_answer_body p.body) (request_taken_up x o.address p log) (request_taken_up x o.address p k) taken is_none was.asked)
    (asked_same (is_answer_body p.body) (request_taken_up x o.address p log) (request_taken_up x o.address p k) taken (λ q. not (option_map_or (is_answer_to p) q false)) was.answers)
    (and_unless (is_answer_body p.body) (is_changed_answer x p k) (λ answer changed. none_opposite r wide h s b p k setting explains meant at answer all changed))
    (asked_same (is_answer_body p.body) (request_taken_up x o.address p log) (request_taken_up x o.address p k) taken (λ q. option_map_or (is_impossible x o k p) q false)
    (ap (λ t. is_answer_body p.body && t) (each (request_taken_up x o.address p log)) ∙ was.possible))
  where
    each : (q : Option Pdu) → option_map_or (is_impossible r.setting.exercise (station_at r s) k p) q false
        ≡ option_map_or (is_impossible r.setting.exercise (station_at r s) log p) q false
    each None = refl
    each (Some q) = possible q
