-- Two datagrams that one station sends in a run do not contradict each other, whichever it sends first.
use Rattle.std.proofs.Common.{◌≡◌, ◌⊎◌, inl, inr, ⊎_elim, ℕ, ◌<◌, ◌≤◌, List, [], ◌∷◌, get_or, length, cond, Bool, true, false, Option, Some, None, refl, sym, ap, ◌∙◌, subst, arith}
use Rattle.std.specs.Prelude.{nat_eq, ◌&&◌, ◌||◌, not, is_none, if◌then◌else◌}
use Rattle.std.specs.Option.{option_map_or}
use Rattle.std.specs.List.{list_any}
use Rattle.std.proofs.lemmas.Bool.{cases_lt, eq-eqb, eqb-true, or_cases, or_left, or_right}
use Rattle.std.proofs.lemmas.Bool.Decides.{nat_tests, Decides-like, same_from_decides}
use Rattle.std.proofs.lemmas.Option.{same_Some}
use Rattle.siman_pdus.specs.declared.pdu.Pdu.{Pdu}
use Rattle.siman_pdus.specs.declared.pdu.Body.{Body}
use Rattle.siman_pdus.specs.declared.pdu.Body.TheVariants.{Acknowledge}
use Rattle.siman_pdus.specs.declared.roles.Role.TheVariants as roles
use Rattle.siman_pdus.specs.Role.{is_request_body, request_id_of, is_acknowledge_flag}
use Rattle.siman_pdus.specs.Answers.{same_id, is_answer_to}
use Rattle.siman_pdus.specs.Same.{IsSameOrder, is_same_order}
use Rattle.siman_pdus.proofs.Offered.{order_decides}
use Rattle.exercise_model.specs.declared.acknowledge.AcknowledgeKey.{AcknowledgeKey}
use Rattle.exercise_model.specs.Recording.{PlainRecording}
use Rattle.exercise_model.specs.History.{Event, Send, Get, Tell, History, station_of, log_at, log_of, station_at}
use Rattle.exercise_model.specs.Meaning.{meaning}
use Rattle.exercise_model.specs.Setting.{is_from}
use Rattle.exercise_model.specs.Exchange.{is_answer_role, is_answer_body, request_taken_up}
use Rattle.exercise_model.specs.Change.{able, unable, response_of, responds, key_in, key_of, same_key, responds_under, sends_under, was_acknowledged}
use Rattle.exercise_model.specs.Cause.{is_other_order, sends_other, is_reused, is_changed_answer, is_impossible, IsAllowed}
use Rattle.exercise_model.specs.Run.{Explains, Contains}
use Rattle.exercise_model.proofs.Offered.{same_beginnings, sent_rows}
use Rattle.exercise_conflict.specs.Earlier.{is_opposite, is_opposite_to}
use Rattle.exercise_conflict.proofs.Members.{IsIn, any_in, none_in, shorter, begins_tail}
use Rattle.exercise_conflict.proofs.Places.{from_log, allowed_at}

-- ---- what a station was allowed to send

-- a PDU that a station sent in a run, with what may speak against it after the log before
pub record WasAllowed (r : PlainRecording) (s : ℕ) (p : Pdu) (log : History) : Type 0 where
  pub sender : not (is_from (station_at r s).address p) ≡ false
  pub reused : (is_request_body p.body && is_reused r.setting.exercise p log) ≡ false
  pub asked : (is_answer_body p.body && is_none (request_taken_up r.setting.exercise (station_at r s).address p log)) ≡ false
  pub answers : (is_answer_body p.body && not (option_map_or (is_answer_to p) (request_taken_up r.setting.exercise (station_at r s).address p log) false)) ≡ false
  pub kept : (is_answer_body p.body && is_changed_answer r.setting.exercise p log) ≡ false
  pub possible : (is_answer_body p.body && option_map_or (is_impossible r.setting.exercise (station_at r s) log p)
      (request_taken_up r.setting.exercise (station_at r s).address p log) false) ≡ false

-- an event of a log of a run was allowed after what stood before
pub allowed_there : (r wide : PlainRecording) (h : History) (s : ℕ) (v : Event) (log : History) → wide.setting ≡ r.setting → Explains wide h
    → Contains (log_of wide s) log v → (before : History) × IsAllowed r.setting before v × (log_at s before ≡ log)
allowed_there r wide h s v log setting explains within =
    let event = from_log s h log v within.0 (within.1 ∙ sym (explains.logs s)) in
    (event.before, subst (λ w. IsAllowed w event.before v) setting (allowed_at wide.setting h event.before v explains.run event.within), event.log)

pub was_allowed : (r wide : PlainRecording) (h : History) (s : ℕ) (b : List ℕ) (p : Pdu) (log : History) → wide.setting ≡ r.setting → Explains wide h
    → meaning r.setting.exercise b ≡ Some p → Contains (log_of wide s) log (Send s b) → WasAllowed r s p log
was_allowed r wide h s b p log setting explains meant within =
    let at = allowed_there r wide h s (Send s b) log setting explains within in
    let rows = sent_rows r at.0 s b p at.1 meant in
    subst (WasAllowed r s p) at.2
    (record {
      sender = rows.0;
      reused = rows.1.0;
      asked = rows.1.1.0;
      answers = rows.1.1.1.0;
      kept = rows.1.1.1.1.0;
      possible = rows.1.1.1.1.1.0;
    })

-- ---- of two sends the one comes first, or they are one

abbrev Order : History → Event → Event → History → History → Type 0
Order whole u v before_u before_v = Contains before_v before_u u ⊎ (Contains before_u before_v v ⊎ (u ≡ v))

head_same : (v w : Event) (h k : History) → v ∷ h ≡ w ∷ k → v ≡ w
head_same v w h k e = ap (λ xs. get_or xs 0 v) e

in_order : (whole : History) (u v : Event) (before_u before_v : History) → Contains whole before_u u → Contains whole before_v v → Order whole u v before_u before_v
in_order whole u v before_u before_v one other =
    ⊎_elim
    (λ (less : length before_u < length before_v). inl (shorter (u ∷ before_u) before_v whole one (begins_tail v before_v whole other) (omega (arith, less))))
    (λ (most : length before_v ≤ length before_u). ⊎_elim
    (λ (more : length before_v < length before_u). inr (inl (shorter (v ∷ before_v) before_u whole other (begins_tail u before_u whole one) (omega (arith, more)))))
    (λ (least : length before_u ≤ length before_v).
    let lengths : length (u ∷ before_u) ≡ length (v ∷ before_v) = omega (arith, most, least) in
    inr (inr (head_same u v before_u before_v (same_beginnings (u ∷ before_u) (v ∷ before_v) whole one other lengths))))
    (cases_lt (length before_v) (length before_u)))
    (cases_lt (length before_u) (length before_v))

same_pdu : (x s : ℕ) (b c : List ℕ) (p q : Pdu) → Send s c ≡ Send s b → meaning x b ≡ Some p → meaning x c ≡ Some q → q ≡ p
same_pdu x s b c p q same one other =
    same_Some q p (sym other ∙ ap (meaning x) (ap bytes_in same) ∙ one)
  where
    bytes_in : Event → List ℕ
    bytes_in (Send s b) = b
    bytes_in (Get s b) = []
    bytes_in (Tell s e y) = []

-- what holds of a row for all of a log holds for one of it
and_still : (a f g : Bool) → (a && f) ≡ false → (f ≡ false → g ≡ false) → (a && g) ≡ false
and_still true f g e on = on e
and_still false f g e on = refl

-- ---- another order under one identifier

same_itself : (p : Pdu) → is_same_order p p ≡ true
same_itself p = (order_decides p p).1 refl

turned : (p q : Pdu) → IsSameOrder p q → IsSameOrder q p
turned p q s = sym (ap (λ (x : Pdu). record x { stamp = q.stamp; status = q.status }) s)

same-comm : (p q : Pdu) → is_same_order p q ≡ is_same_order q p
same-comm p q = same_from_decides _ _ (order_decides p q) (Decides-like (is_same_order q p) (turned q p) (turned p q) (order_decides q p))

same_id-comm : (i j : Option ℕ) → same_id i j ≡ same_id j i
same_id-comm None None = refl
same_id-comm None (Some j) = refl
same_id-comm (Some i) None = refl
same_id-comm (Some i) (Some j) = grind (arith, nat_tests)

swap : (a b c : Bool) → (a && (b && c)) ≡ (b && (a && c))
swap true true c = refl
swap true false c = refl
swap false true c = refl
swap false false c = refl

other-comm : (p q : Pdu) → (is_request_body p.body && is_other_order p q) ≡ (is_request_body q.body && is_other_order q p)
other-comm p q =
    swap (is_request_body p.body) (is_request_body q.body) (same_id (request_id_of p.body) (request_id_of q.body) && not (is_same_order p q))
    ∙ ap (λ t. is_request_body q.body && (is_request_body p.body && (t && not (is_same_order p q)))) (same_id-comm (request_id_of p.body) (request_id_of q.body))
    ∙ ap (λ t. is_request_body q.body && (is_request_body p.body && (same_id (request_id_of q.body) (request_id_of p.body) && not t))) (same-comm p q)

other_itself : (p : Pdu) → (is_request_body p.body && is_other_order p p) ≡ false
other_itself p =
    ap (λ t. is_request_body p.body && (is_request_body p.body && (same_id (request_id_of p.body) (request_id_of p.body) && not t))) (same_itself p)
    ∙ off (is_request_body p.body) (same_id (request_id_of p.body) (request_id_of p.body))
  where
    off : (a b : Bool) → (a && (a && (b && false))) ≡ false
    off true true = refl
    off true false = refl
    off false b = refl

reused_still : (r : PlainRecording) (s : ℕ) (p q : Pdu) (c : List ℕ) (log : History) → WasAllowed r s p log → meaning r.setting.exercise c ≡ Some q
    → IsIn (Send s c) log → (is_request_body p.body && is_other_order p q) ≡ false
unfolding is_reused
reused_still r s p q c log was meant found =
    and_still (is_request_body p.body) (is_reused r.setting.exercise p log) (is_other_order p q) was.reused
    (λ none. ap (λ o. option_map_or (is_other_order p) o false) (sym meant) ∙ none_in (sends_other r.setting.exercise p) (Send s c) log found none)

-- NO OTHER ORDER: of two PDUs that a station sends in a run, neither is another order under the identifier of the other
pub no_other : (r wide : PlainRecording) (h : History) (s : ℕ) (b c : List ℕ) (p q : Pdu) → wide.setting ≡ r.setting → Explains wide h
    → meaning r.setting.exercise b ≡ Some p → meaning r.setting.exercise c ≡ Some q → IsIn (Send s b) (log_of wide s) → IsIn (Send s c) (log_of wide s)
    → (is_request_body p.body && is_other_order p q) ≡ false
no_other r wide h s b c p q setting explains one other at there =
    ⊎_elim
    (λ (first : Contains at.0 there.0 (Send s c)).
    reused_still r s p q c at.0 (was_allowed r wide h s b p at.0 setting explains one at.1) other (there.0, first))
    (λ (rest : Contains there.0 at.0 (Send s b) ⊎ (Send s c ≡ Send s b)). ⊎_elim
    (λ (last : Contains there.0 at.0 (Send s b)).
    other-comm p q ∙ reused_still r s q p b there.0 (was_allowed r wide h s c q there.0 setting explains other there.1) one (at.0, last))
    (λ (same : Send s c ≡ Send s b).
    subst (λ z. (is_request_body p.body && is_other_order p z) ≡ false) (sym (same_pdu r.setting.exercise s b c p q same one other)) (other_itself p))
    rest)
    (in_order (log_of wide s) (Send s c) (Send s b) there.0 at.0 there.1 at.1)

-- ---- the opposite answer under one key

both : (a b : Bool) → (a && b) ≡ true → (a ≡ true) × (b ≡ true)
both true b e = (refl, e)
both false b e = absurd (cc)

key_fields : (k l : AcknowledgeKey) → k.flag ≡ l.flag → k.request ≡ l.request → k.site ≡ l.site → k.application ≡ l.application → k.entity ≡ l.entity → k ≡ l
key_fields k l a b c d e = rw (a, b, c, d, e) refl

key_equal : (k l : AcknowledgeKey) → same_key k l ≡ true → k ≡ l
key_equal k l e =
    let one = both _ _ e in
    let two = both _ _ one.1 in
    let three = both _ _ two.1 in
    let four = both _ _ three.1 in
    key_fields k l (eqb-true _ _ one.0) (eqb-true _ _ two.0) (eqb-true _ _ three.0) (eqb-true _ _ four.0) (eqb-true _ _ four.1)

key_itself : (k : AcknowledgeKey) → same_key k k ≡ true
key_itself k = rw (eq-eqb k.flag k.flag refl, eq-eqb k.request k.request refl, eq-eqb k.site k.site refl, eq-eqb k.application k.application refl, eq-eqb k.entity k.entity refl) refl

-- the key of an answer says that it is one
key_answers : (p : Pdu) (body : Body) (k : AcknowledgeKey) → key_in p body ≡ Some k → is_answer_body body ≡ is_acknowledge_flag k.flag
key_answers p (Acknowledge flag response request) k e =
    ap (λ t. is_answer_role (if t then roles.Answer else roles.Outside)) (ap is_acknowledge_flag (ap (λ (z : AcknowledgeKey). z.flag) (same_Some _ k e)))
    ∙ of_flag (is_acknowledge_flag k.flag)
  where
    of_flag : (t : Bool) → is_answer_role (if t then roles.Answer else roles.Outside) ≡ t
    of_flag true = refl
    of_flag false = refl
key_answers p body k e = absurd (cc)

-- what responds under a key has it
pub under_key : (response : ℕ) (k : AcknowledgeKey) (q : Pdu) → responds_under response k q ≡ true → (responds response q ≡ true) × (key_of q ≡ Some k)
under_key response k q e =
    let parts = both (responds response q) (option_map_or (same_key k) (key_of q) false) e in
    (parts.0, found (key_of q) refl parts.1)
  where
    found : (o : Option AcknowledgeKey) → key_of q ≡ o → option_map_or (same_key k) o false ≡ true → key_of q ≡ Some k
    found None is e = absurd (cc)
    found (Some l) is e = is ∙ ap Some (sym (key_equal k l e))

under_it : (response : ℕ) (k : AcknowledgeKey) (q : Pdu) → responds response q ≡ true → key_of q ≡ Some k → responds_under response k q ≡ true
under_it response k q is key =
    ap (λ t. t && option_map_or (same_key k) (key_of q) false) is ∙ ap (λ o. option_map_or (same_key k) o false) key ∙ key_itself k

-- two answers are opposite: one is an Able and the other an Unable, under one key
pub record AreOpposite (p q : Pdu) : Type 0 where
  pub key : AcknowledgeKey
  pub one : key_of p ≡ Some key
  pub other : key_of q ≡ Some key
  pub apart : ((responds able p ≡ true) × (responds unable q ≡ true)) ⊎ ((responds unable p ≡ true) × (responds able q ≡ true))

opposite_parts : (p q : Pdu) → is_opposite_to p q ≡ true → AreOpposite p q
opposite_parts p q e = of_key (key_of p) refl e
  where
    of_key : (o : Option AcknowledgeKey) → key_of p ≡ o → option_map_or (is_opposite p q) o false ≡ true → AreOpposite p q
    of_key None is e = absurd (cc)
    of_key (Some k) is e =
        ⊎_elim
        (λ (first : (responds able p && responds_under unable k q) ≡ true).
        let parts = both (responds able p) (responds_under unable k q) first in
        let under = under_key unable k q parts.1 in
        record { key = k; one = is; other = under.1; apart = inl (parts.0, under.0) })
        (λ (second : (responds unable p && responds_under able k q) ≡ true).
        let parts = both (responds unable p) (responds_under able k q) second in
        let under = under_key able k q parts.1 in
        record { key = k; one = is; other = under.1; apart = inr (parts.0, under.0) })
        (or_cases _ _ e)

and_true : (a b : Bool) → a ≡ true → b ≡ true → (a && b) ≡ true
and_true a b e f = ap (λ t. t && b) e ∙ f

opposite_is : (p q : Pdu) → AreOpposite p q → is_opposite_to p q ≡ true
opposite_is p q are =
    ap (λ o. option_map_or (is_opposite p q) o false) are.one
    ∙ ⊎_elim {C = is_opposite p q are.key ≡ true}
    (λ (first : (responds able p ≡ true) × (responds unable q ≡ true)).
    or_left _ _ (and_true (responds able p) (responds_under unable are.key q) first.0 (under_it unable are.key q first.1 are.other)))
    (λ (second : (responds unable p ≡ true) × (responds able q ≡ true)).
    or_right _ _ (and_true (responds unable p) (responds_under able are.key q) second.0 (under_it able are.key q second.1 are.other)))
    are.apart

turn_apart : (p q : Pdu) → AreOpposite p q → AreOpposite q p
turn_apart p q are = record {
  key = are.key;
  one = are.other;
  other = are.one;
  apart = ⊎_elim (λ (first : (responds able p ≡ true) × (responds unable q ≡ true)). inr (first.1, first.0))
      (λ (second : (responds unable p ≡ true) × (responds able q ≡ true)). inl (second.1, second.0)) are.apart;
}

-- no PDU is both
not_both : (p : Pdu) → responds able p ≡ true → responds unable p ≡ true → ⊥
not_both p one other = at (response_of p.body) one other
  where
    at : (o : Option ℕ) → same_id o (Some able) ≡ true → same_id o (Some unable) ≡ true → ⊥
    at None one other = absurd (cc)
    at (Some k) one other = absurd (cc (sym (eqb-true k 1 one) ∙ eqb-true k 2 other))

-- whichever is sent first, the other one is a changed answer
changed_by : (r : PlainRecording) (s : ℕ) (p q : Pdu) (c : List ℕ) (log : History) → AreOpposite p q → meaning r.setting.exercise c ≡ Some q
    → IsIn (Send s c) log → is_changed_answer r.setting.exercise p log ≡ true
unfolding is_changed_answer was_acknowledged
changed_by r s p q c log are meant found =
    let x : ℕ = r.setting.exercise in
    let k : AcknowledgeKey = are.key in
    let sent : (response : ℕ) → responds response q ≡ true → list_any (sends_under x response k) log ≡ true =
    λ response is. any_in (sends_under x response k) (Send s c) log found
    (ap (λ o. option_map_or (responds_under response k) o false) meant ∙ under_it response k q is are.other) in
    ap (λ o. option_map_or (λ k. (responds able p && list_any (sends_under x unable k) log) || (responds unable p && list_any (sends_under x able k) log)) o false) are.one
    ∙ ⊎_elim {C = ((responds able p && list_any (sends_under x unable k) log) || (responds unable p && list_any (sends_under x able k) log)) ≡ true}
    (λ (first : (responds able p ≡ true) × (responds unable q ≡ true)). or_left _ _ (and_true (responds able p) (list_any (sends_under x unable k) log) first.0 (sent unable first.1)))
    (λ (second : (responds unable p ≡ true) × (responds able q ≡ true)). or_right _ _ (and_true (responds unable p) (list_any (sends_under x able k) log) second.0 (sent able second.1)))
    are.apart

answers_alike : (p q : Pdu) → AreOpposite p q → is_answer_body p.body ≡ is_answer_body q.body
answers_alike p q are = key_answers p p.body are.key are.one ∙ sym (key_answers q q.body are.key are.other)

no_change : (r : PlainRecording) (s : ℕ) (p q : Pdu) (c : List ℕ) (log : History) → WasAllowed r s p log → is_answer_body p.body ≡ true → AreOpposite p q
    → meaning r.setting.exercise c ≡ Some q → IsIn (Send s c) log → ⊥
no_change r s p q c log was answer are meant found =
    absurd (cc (sym was.kept ∙ and_true (is_answer_body p.body) (is_changed_answer r.setting.exercise p log) answer (changed_by r s p q c log are meant found)))

-- NO OPPOSITE ANSWER: of two PDUs that a station sends in a run, the one is not the opposite answer of the other under its key
pub no_opposite : (r wide : PlainRecording) (h : History) (s : ℕ) (b c : List ℕ) (p q : Pdu) → wide.setting ≡ r.setting → Explains wide h
    → meaning r.setting.exercise b ≡ Some p → meaning r.setting.exercise c ≡ Some q → IsIn (Send s b) (log_of wide s) → IsIn (Send s c) (log_of wide s)
    → is_answer_body p.body ≡ true → AreOpposite p q → ⊥
no_opposite r wide h s b c p q setting explains one other at there answer are =
    ⊎_elim
    (λ (first : Contains at.0 there.0 (Send s c)).
    no_change r s p q c at.0 (was_allowed r wide h s b p at.0 setting explains one at.1) answer are other (there.0, first))
    (λ (rest : Contains there.0 at.0 (Send s b) ⊎ (Send s c ≡ Send s b)). ⊎_elim
    (λ (last : Contains there.0 at.0 (Send s b)).
    no_change r s q p b there.0 (was_allowed r wide h s c q there.0 setting explains other there.1) (sym (answers_alike p q are) ∙ answer) (turn_apart p q are) one (at.0, last))
    (λ (same : Send s c ≡ Send s b).
    let equal : q ≡ p = same_pdu r.setting.exercise s b c p q same one other in
    ⊎_elim (λ (first : (responds able p ≡ true) × (responds unable q ≡ true)). not_both p first.0 (ap (responds unable) (sym equal) ∙ first.1))
    (λ (second : (responds unable p ≡ true) × (responds able q ≡ true)). not_both p (ap (responds able) (sym equal) ∙ second.1) second.0) are.apart)
    rest)
    (in_order (log_of wide s) (Send s c) (Send s b) there.0 at.0 there.1 at.1)
