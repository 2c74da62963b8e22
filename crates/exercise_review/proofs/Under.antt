-- All entries that have to do with an order at a station have the key of the station and of the order.
use Rattle.std.proofs.Common.{◌≡◌, ℕ, List, Bool, true, false, cond, Option, Some, None, refl, sym, ap, ◌∙◌}
use Rattle.std.specs.Prelude.{IfSome, nat_eq, unwrap_or, ◌&&◌, slice_get, option_map, option_and_then, if◌then◌else◌}
use Rattle.std.specs.Option.{option_map_or}
use Rattle.std.proofs.lemmas.Bool.{eqb-true, eq-eqb, and_parts}
use Rattle.dis_records.specs.declared.address.SiteApplication.{SiteApplication}
use Rattle.dis_records.specs.declared.kind.Kind.{Kind}
use Rattle.siman_pdus.specs.declared.pdu.Body.{Body}
use Rattle.siman_pdus.specs.declared.pdu.Body.TheVariants as bodies
use Rattle.siman_pdus.specs.declared.pdu.Pdu.{Pdu}
use Rattle.siman_pdus.specs.declared.roles.Role.TheVariants as roles
use Rattle.siman_pdus.specs.Answers.{same_id, is_answer_to, matches_kind}
use Rattle.siman_pdus.specs.Role.{request_id_of, is_request_body, is_request_role, is_acknowledge_flag}
use Rattle.siman_pdus.specs.Same.{is_same_order}
use Rattle.siman_pdus.specs.Spelling.{body_kind}
use Rattle.siman_pdus.proofs.Offered.{order_decides}
use Rattle.exercise_model.specs.declared.form.Form.{Form}
use Rattle.exercise_model.specs.Entry.{Entry, Sent, Received, Told}
use Rattle.exercise_model.specs.Recording.{PlainRecording}
use Rattle.exercise_model.specs.Account.{pair_of}
use Rattle.exercise_model.specs.Meaning.{meaning}
use Rattle.exercise_model.specs.Setting.{is_open}
use Rattle.exercise_review.specs.Digest.{digest, digest_of, identifier_at}
use Rattle.exercise_review.specs.Entries.{bytes_sent_by, bytes_received_by, bytes_sent, bytes_received, pdu_sent, pdu_received}
use Rattle.exercise_review.specs.Order.{OrderData, sends_order, gets_order, entry_gets, gets_anywhere, is_outside, sends_under_id, is_first_under_id}
use Rattle.exercise_review.specs.Party.{is_copy, is_heard_from, is_answer_from}
use Rattle.exercise_review.specs.Reply.{answers_order, takes_copy, is_reply, is_changing_reply, replies_in}
use Rattle.exercise_review.specs.Word.{is_settling}
use Rattle.exercise_review.specs.Register.{order_key, id_key, sent_key, receipt_key, entry_key, key_at, nowhere, second_key, second_at, holds, has_key, maker_key, IsUnder}
use Rattle.exercise_review.proofs.Runs.{there}

-- ---- the keys of entries

sent_keyed : (r : PlainRecording) (s i : ℕ) (q : Pdu) → pdu_sent r s i ≡ Some q → key_at r i ≡ sent_key r s i q
unfolding pdu_sent bytes_sent key_at
sent_keyed r s i q =
    elim (slice_get r.entries i) as (λ o. option_and_then (meaning r.setting.exercise) (option_and_then (bytes_sent_by s) o) ≡ Some q
    → option_and_then (entry_key r i) o ≡ sent_key r s i q) [
      | None ↦ λ h. absurd (cc)
      | Some e ↦ of_entry e
    ]
  where
    of_entry : (e : Entry) → option_and_then (meaning r.setting.exercise) (bytes_sent_by s e) ≡ Some q → entry_key r i e ≡ sent_key r s i q
    of_entry (Sent t stamp b) = elim (nat_eq t s) as (λ k. nat_eq t s ≡ k → option_and_then (meaning r.setting.exercise) (cond k (Some b) None) ≡ Some q
        → option_and_then (sent_key r t i) (meaning r.setting.exercise b) ≡ sent_key r s i q) [
          | true ↦ λ same h. ap (option_and_then (sent_key r t i)) h ∙ ap (λ u. sent_key r u i q) (eqb-true t s same)
          | false ↦ λ _ h. absurd (cc)
        ] refl
    of_entry (Received t stamp b) = λ h. absurd (cc)
    of_entry (Told t n y) = λ h. absurd (cc)

got_keyed : (r : PlainRecording) (s i : ℕ) (q : Pdu) → pdu_received r s i ≡ Some q → key_at r i ≡ receipt_key r.setting.form s q
unfolding pdu_received bytes_received key_at
got_keyed r s i q =
    elim (slice_get r.entries i) as (λ o. option_and_then (meaning r.setting.exercise) (option_and_then (bytes_received_by s) o) ≡ Some q
    → option_and_then (entry_key r i) o ≡ receipt_key r.setting.form s q) [
      | None ↦ λ h. absurd (cc)
      | Some e ↦ of_entry e
    ]
  where
    of_entry : (e : Entry) → option_and_then (meaning r.setting.exercise) (bytes_received_by s e) ≡ Some q → entry_key r i e ≡ receipt_key r.setting.form s q
    of_entry (Sent t stamp b) = λ h. absurd (cc)
    of_entry (Received t stamp b) = elim (nat_eq t s) as (λ k. nat_eq t s ≡ k → option_and_then (meaning r.setting.exercise) (cond k (Some b) None) ≡ Some q
        → option_and_then (receipt_key r.setting.form t) (meaning r.setting.exercise b) ≡ receipt_key r.setting.form s q) [
          | true ↦ λ same h. ap (option_and_then (receipt_key r.setting.form t)) h ∙ ap (λ u. receipt_key r.setting.form u q) (eqb-true t s same)
          | false ↦ λ _ h. absurd (cc)
        ] refl
    of_entry (Told t n y) = λ h. absurd (cc)

-- the second key of what is sent, where the recording is open
sent_second : (r : PlainRecording) (s i : ℕ) (q : Pdu) → pdu_sent r s i ≡ Some q
    → second_at r i ≡ (if is_open r.setting.form then (if is_request_body q.body then id_key s q else None) else None)
unfolding pdu_sent bytes_sent second_at
sent_second r s i q at = ap (λ o. if is_open r.setting.form then o else None) (here (slice_get r.entries i) at)
  where
    of_entry : (e : Entry) → option_and_then (meaning r.setting.exercise) (bytes_sent_by s e) ≡ Some q
        → second_key r.setting.exercise e ≡ (if is_request_body q.body then id_key s q else None)
    of_entry (Sent t stamp b) = elim (nat_eq t s) as (λ k. nat_eq t s ≡ k → option_and_then (meaning r.setting.exercise) (cond k (Some b) None) ≡ Some q
        → second_key r.setting.exercise (Sent t stamp b) ≡ (if is_request_body q.body then id_key s q else None)) [
          | true ↦ λ same h.
              ap (option_and_then (λ (p : Pdu). if is_request_body p.body then id_key t p else None)) h
              ∙ ap (λ u. if is_request_body q.body then id_key u q else None) (eqb-true t s same)
          | false ↦ λ _ h. absurd (cc)
        ] refl
    of_entry (Received t stamp b) = λ h. absurd (cc)
    of_entry (Told t n y) = λ h. absurd (cc)

    here : (o : Option Entry) → option_and_then (meaning r.setting.exercise) (option_and_then (bytes_sent_by s) o) ≡ Some q
        → option_and_then (second_key r.setting.exercise) o ≡ (if is_request_body q.body then id_key s q else None)
    here None h = absurd (cc)
    here (Some e) h = of_entry e h

-- an entry with this key has it
has_it : (r : PlainRecording) (i k : ℕ) → key_at r i ≡ Some k → has_key r k i ≡ true
unfolding holds
has_it r i k e = ap (λ o. option_map_or (λ l. nat_eq l k) o false) e ∙ eq-eqb k k refl

-- ---- requests and answers

-- what has the key of an order is a request
is_asking : (s k : ℕ) (p : Pdu) → order_key s p ≡ Some k → is_request_body p.body ≡ true
unfolding order_key
is_asking s k p e =
    elim (is_request_body p.body) as (λ b. (if b then Some (digest_of s p) else None) ≡ Some k → b ≡ true) [
      | true ↦ λ _. refl
      | false ↦ λ h. absurd (cc)
    ] e

asked_key : (r : PlainRecording) (s i : ℕ) (q : Pdu) → is_request_body q.body ≡ true → sent_key r s i q ≡ order_key s q
unfolding sent_key
asked_key r s i q asks =
    ap (λ b. if b then order_key s q else option_and_then (order_key s) (option_and_then (pdu_received r s) (pair_of r i))) asks

pub answer_key : (r : PlainRecording) (s i : ℕ) (q : Pdu) → is_request_body q.body ≡ false
    → sent_key r s i q ≡ option_and_then (order_key s) (option_and_then (pdu_received r s) (pair_of r i))
unfolding sent_key
answer_key r s i q answers =
    ap (λ b. if b then order_key s q else option_and_then (order_key s) (option_and_then (pdu_received r s) (pair_of r i))) answers

got_asked : (f : Form) (s : ℕ) (q : Pdu) → is_request_body q.body ≡ true → receipt_key f s q ≡ order_key s q
unfolding receipt_key
got_asked f s q asks = ap (λ b. if b then order_key s q else (if is_open f then id_key s q else None)) asks

got_answer : (f : Form) (s : ℕ) (q : Pdu) → is_open f ≡ true → is_request_body q.body ≡ false → receipt_key f s q ≡ id_key s q
unfolding receipt_key
got_answer f s q is answers =
    ap (λ b. if b then order_key s q else (if is_open f then id_key s q else None)) answers
    ∙ ap (λ b. if b then id_key s q else None) is

-- the same order has the same key, and is a request alike
same_key : (s : ℕ) (p q : Pdu) → is_same_order p q ≡ true → order_key s p ≡ order_key s q
unfolding order_key digest_of digest
same_key s p q same = ap (order_key s) ((order_decides p q).0 same)

same_asking : (p q : Pdu) → is_same_order p q ≡ true → is_request_body p.body ≡ is_request_body q.body
same_asking p q same = ap (λ (x : Pdu). is_request_body x.body) ((order_decides p q).0 same)

-- an answer is no request
no_request : (b : Body) (k : Kind) → matches_kind b k ≡ true → is_request_body b ≡ false
no_request (bodies.CreateEntity request) k h = absurd (cc)
no_request (bodies.RemoveEntity request) k h = absurd (cc)
no_request (bodies.StartResume real sim request) k h = absurd (cc)
no_request (bodies.StopFreeze real reason behaviour request) k h = absurd (cc)
no_request (bodies.Acknowledge flag response request) k h =
    elim (is_acknowledge_flag flag) as (λ b. is_request_role (if b then roles.Answer else roles.Outside) ≡ false) [ true ↦ refl | false ↦ refl ]
no_request (bodies.ActionRequest request action datums) k h = absurd (cc)
no_request (bodies.ActionResponse request status datums) k h = refl
no_request (bodies.DataQuery request interval ids) k h = absurd (cc)
no_request (bodies.SetData request datums) k h = absurd (cc)
no_request (bodies.DataPdu request datums) k h = refl
no_request (bodies.EventReport event datums) k h = refl
no_request (bodies.Comment datums) k h = refl

pub is_answering : (p q : Pdu) → is_answer_to p q ≡ true → is_request_body p.body ≡ false
is_answering p q h = no_request p.body (body_kind q.body) (and_parts _ _ h).0

pub ids_are : (a b : Option ℕ) → same_id a b ≡ true → a ≡ b
ids_are None b h = absurd (cc)
ids_are (Some a) None h = absurd (cc)
ids_are (Some a) (Some b) h = ap Some (eqb-true a b h)

answer_id : (p q : Pdu) → is_answer_to p q ≡ true → request_id_of q.body ≡ request_id_of p.body
answer_id p q h = sym (ids_are (request_id_of p.body) (request_id_of q.body) (and_parts _ _ (and_parts _ _ h).1).0)

-- ---- each question

if_key : (o : Option ℕ) (P : ℕ → Type 0) → ((k : ℕ) → o ≡ Some k → P k) → IfSome o P
if_key None P f = tt
if_key (Some k) P f = f k refl

pub sends_keyed : (r : PlainRecording) (s : ℕ) (p : Pdu) → is_request_body p.body ≡ true → (i : ℕ) → sends_order r s p i ≡ true → key_at r i ≡ order_key s p
unfolding sends_order
sends_keyed r s p asks i h =
    let q = there (is_same_order p) (pdu_sent r s i) h in
    sent_keyed r s i q.0 q.1 ∙ asked_key r s i q.0 (sym (same_asking p q.0 q.2) ∙ asks) ∙ sym (same_key s p q.0 q.2)

sends_have : (r : PlainRecording) (s : ℕ) (p : Pdu) (k : ℕ) → order_key s p ≡ Some k → IsUnder r (sends_order r s p) k
sends_have r s p k e i h = has_it r i k (sends_keyed r s p (is_asking s k p e) i h ∙ e)

pub sends_under : (r : PlainRecording) (s : ℕ) (p : Pdu) → IfSome (order_key s p) (IsUnder r (sends_order r s p))
sends_under r s p = if_key (order_key s p) (IsUnder r (sends_order r s p)) (sends_have r s p)

gets_have : (r : PlainRecording) (s : ℕ) (p : Pdu) (k : ℕ) → order_key s p ≡ Some k → IsUnder r (gets_order r s p) k
unfolding gets_order
gets_have r s p k e i h =
    let q = there (is_same_order p) (pdu_received r s i) h in
    has_it r i k (got_keyed r s i q.0 q.1 ∙ got_asked r.setting.form s q.0 (sym (same_asking p q.0 q.2) ∙ is_asking s k p e) ∙ sym (same_key s p q.0 q.2) ∙ e)

pub gets_under : (r : PlainRecording) (s : ℕ) (p : Pdu) → IfSome (order_key s p) (IsUnder r (gets_order r s p))
gets_under r s p = if_key (order_key s p) (IsUnder r (gets_order r s p)) (gets_have r s p)

pub send_has : (r : PlainRecording) (o : OrderData) (t k : ℕ) → order_key t o.request ≡ Some k → IsUnder r (sends_order r t o.request) k
send_has r o t = sends_have r t o.request

pub copy_has : (r : PlainRecording) (o : OrderData) (t k : ℕ) → order_key t o.request ≡ Some k → IsUnder r (is_copy r o t) k
copy_has r o t = gets_have r t o.request

-- what is received there is not sent there
got_not_sent : (r : PlainRecording) (t i : ℕ) (q : Pdu) → pdu_received r t i ≡ Some q → pdu_sent r t i ≡ None
unfolding pdu_received pdu_sent bytes_received bytes_sent
got_not_sent r t i q =
    elim (slice_get r.entries i) as (λ o. option_and_then (meaning r.setting.exercise) (option_and_then (bytes_received_by t) o) ≡ Some q
    → option_and_then (meaning r.setting.exercise) (option_and_then (bytes_sent_by t) o) ≡ None) [
      | None ↦ λ h. absurd (cc)
      | Some e ↦ of_entry e
    ]
  where
    of_entry : (e : Entry) → option_and_then (meaning r.setting.exercise) (bytes_received_by t e) ≡ Some q
        → option_and_then (meaning r.setting.exercise) (bytes_sent_by t e) ≡ None
    of_entry (Sent s stamp b) = λ h. absurd (cc)
    of_entry (Received s stamp b) = λ h. refl
    of_entry (Told s n y) = λ h. absurd (cc)

-- A COPY is nothing else: at its entry the station neither sends the order nor replies to it
pub copy_alone : (r : PlainRecording) (o : OrderData) (t i : ℕ) → is_copy r o t i ≡ true → (sends_order r t o.request i ≡ false) × (is_reply r o t i ≡ false)
unfolding gets_order sends_order is_reply
copy_alone r o t i h =
    let q = there (is_same_order o.request) (pdu_received r t i) h in
    let none = got_not_sent r t i q.0 q.1 in
    (ap (λ x. option_map_or (is_same_order o.request) x false) none, ap (λ x. option_map_or (λ (p : Pdu). is_answer_to p o.request) x false && takes_copy r o t i) none)

pub reply_has : (r : PlainRecording) (o : OrderData) (t k : ℕ) → order_key t o.request ≡ Some k → IsUnder r (is_reply r o t) k
unfolding is_reply gets_order
reply_has r o t k e i h =
    let parts = and_parts (answers_order r o t i) _ h in
    let q = there (λ (x : Pdu). is_answer_to x o.request) (pdu_sent r t i) parts.0 in
    let taken = there (is_copy r o t) (pair_of r i) parts.1 in
    let copy = there (is_same_order o.request) (pdu_received r t taken.0) taken.2 in
    has_it r i k (sent_keyed r t i q.0 q.1
    ∙ answer_key r t i q.0 (is_answering q.0 o.request q.2)
    ∙ ap (λ (m : Option ℕ). option_and_then (order_key t) (option_and_then (pdu_received r t) m)) taken.1
    ∙ ap (option_and_then (order_key t)) copy.1
    ∙ sym (same_key t o.request copy.0 copy.2) ∙ e)

pub replies_under : (r : PlainRecording) (o : OrderData) (t : ℕ) → IfSome (order_key t o.request) (IsUnder r (is_reply r o t))
replies_under r o t = if_key (order_key t o.request) (IsUnder r (is_reply r o t)) (reply_has r o t)

pub changing_under : (r : PlainRecording) (o : OrderData) (t : ℕ) → IfSome (order_key t o.request) (IsUnder r (is_changing_reply r o t))
unfolding is_changing_reply
changing_under r o t = if_key (order_key t o.request) (IsUnder r (is_changing_reply r o t)) (λ k e i h.
    reply_has r o t k e i (and_parts (is_reply r o t i) _ h).0)

pub in_bytes_under : (r : PlainRecording) (o : OrderData) (t : ℕ) (b : List ℕ) → IfSome (order_key t o.request) (IsUnder r (replies_in r o t b))
unfolding replies_in
in_bytes_under r o t b = if_key (order_key t o.request) (IsUnder r (replies_in r o t b)) (λ k e i h.
    reply_has r o t k e i (and_parts (is_reply r o t i) _ h).0)

-- what comes from outside does so in an open recording
from_open : (r : PlainRecording) (p : Pdu) → is_outside r p ≡ true → is_open r.setting.form ≡ true
unfolding is_outside
from_open r p h = (and_parts (is_open r.setting.form) _ h).0

told_has : (r : PlainRecording) (o : OrderData) (a : SiteApplication) (k : ℕ) (m : Option ℕ) → option_map_or (λ s. id_key s o.request) m (id_key 0 o.request) ≡ Some k
    → (i : ℕ) → option_map_or (is_answer_from r o a) (option_and_then (λ s. pdu_received r s i) m) false ≡ true → has_key r k i ≡ true
told_has r o a k None e i h = absurd (cc)
told_has r o a k (Some s) e i h =
    let q = there (is_answer_from r o a) (pdu_received r s i) h in
    let parts = and_parts (is_answer_to q.0 o.request) _ q.2 in
    let answers = parts.0 in
    has_it r i k (got_keyed r s i q.0 q.1
    ∙ got_answer r.setting.form s q.0 (from_open r q.0 (and_parts (is_outside r q.0) _ parts.1).0) (is_answering q.0 o.request answers)
    ∙ ap (option_map (identifier_at s)) (sym (answer_id q.0 o.request answers)) ∙ e)

maker_is : (o : OrderData) (m : Option ℕ) → id_key (option_map_or (λ s. s) m 0) o.request ≡ option_map_or (λ s. id_key s o.request) m (id_key 0 o.request)
maker_is o None = refl
maker_is o (Some s) = refl

pub told_under : (r : PlainRecording) (o : OrderData) (a : SiteApplication) → IfSome (maker_key o) (IsUnder r (is_heard_from r o a))
unfolding is_heard_from maker_key
told_under r o a = if_key (maker_key o) (IsUnder r (is_heard_from r o a)) (λ k e i h.
    told_has r o a k o.maker (sym (maker_is o o.maker) ∙ e) i (and_parts _ _ (and_parts (is_first_under_id r o) _ h).1).1)

pub settling_under : (r : PlainRecording) (f : ℕ → Bool) (o : Option ℕ) → IfSome o (IsUnder r f) → IfSome o (IsUnder r (is_settling r f))
settling_under r f None under = tt
settling_under r f (Some k) under = λ i h. under i (and_parts (f i) _ h).0

pub ruleset under_steps = (sends_under, gets_under, replies_under, changing_under, in_bytes_under, told_under)

-- ---- what has the key of an entry that passes

under_one : (keys : ℕ → Option ℕ) (f : ℕ → Bool) (c : Option ℕ) → ((j : ℕ) → f j ≡ true → keys j ≡ c) → (i : ℕ) → f i ≡ true
    → IfSome (keys i) (λ k. (j : ℕ) → f j ≡ true → holds keys k j ≡ true)
unfolding holds
under_one keys f c all i passes =
    if_key (keys i) (λ k. (j : ℕ) → f j ≡ true → holds keys k j ≡ true)
    (λ k e j h. ap (λ o. option_map_or (λ l. nat_eq l k) o false) (all j h ∙ sym (all i passes) ∙ e) ∙ eq-eqb k k refl)

-- a request has a key
asked_digest : (s : ℕ) (p : Pdu) → is_request_body p.body ≡ true → order_key s p ≡ Some (digest_of s p)
unfolding order_key
asked_digest s p asks = ap (λ b. if b then Some (digest_of s p) else None) asks

-- what a station sends, it sends
pub sends_itself : (r : PlainRecording) (s i : ℕ) (p : Pdu) → pdu_sent r s i ≡ Some p → sends_order r s p i ≡ true
unfolding sends_order
sends_itself r s i p sent = ap (λ q. option_map_or (is_same_order p) q false) sent ∙ (order_decides p p).1 refl

pub sends_first : (r : PlainRecording) (s i : ℕ) (p : Pdu) → is_request_body p.body ≡ true → sends_order r s p i ≡ true
    → (j : ℕ) → sends_order r s p j ≡ true → has_key r (unwrap_or (key_at r i) 0) j ≡ true
sends_first r s i p asks passes j sends =
    let key : key_at r i ≡ Some (digest_of s p) = sends_keyed r s p asks i passes ∙ asked_digest s p asks in
    has_it r j (unwrap_or (key_at r i) 0) (sends_keyed r s p asks j sends ∙ asked_digest s p asks ∙ ap (λ (o : Option ℕ). Some (unwrap_or o 0)) (sym key))

pub id_first : (r : PlainRecording) (s i : ℕ) (p : Pdu) → sends_under_id r s p i ≡ true
    → IfSome (second_at r i) (λ k. (j : ℕ) → sends_under_id r s p j ≡ true → holds (second_at r) k j ≡ true)
unfolding sends_under_id
id_first r s i p = under_one (second_at r) (sends_under_id r s p) (if is_open r.setting.form then id_key s p else None) (λ j h.
    let q = there (λ (x : Pdu). is_request_body x.body && same_id (request_id_of p.body) (request_id_of x.body)) (pdu_sent r s j) h in
    let parts = and_parts (is_request_body q.0.body) _ q.2 in
    sent_second r s j q.0 q.1
    ∙ ap (λ b. if is_open r.setting.form then (if b then id_key s q.0 else None) else None) parts.0
    ∙ ap (λ o. if is_open r.setting.form then option_map (identifier_at s) o else None) (sym (ids_are (request_id_of p.body) (request_id_of q.0.body) parts.1))) i

got_second : (r : PlainRecording) (p : Pdu) (i : ℕ) → gets_anywhere r p i ≡ true
    → second_at r i ≡ (if is_open r.setting.form then order_key nowhere p else None)
unfolding gets_anywhere second_at
got_second r p i h =
    let e = there (entry_gets r.setting.exercise p) (slice_get r.entries i) h in
    ap (λ o. if is_open r.setting.form then option_and_then (second_key r.setting.exercise) o else None) e.1
    ∙ ap (λ o. if is_open r.setting.form then o else None) (of_entry e.0 e.2)
  where
    of_entry : (e : Entry) → entry_gets r.setting.exercise p e ≡ true → second_key r.setting.exercise e ≡ order_key nowhere p
    of_entry (Sent t stamp b) h = absurd (cc)
    of_entry (Received t stamp b) h =
        let q = there (is_same_order p) (meaning r.setting.exercise b) h in
        ap (option_and_then (order_key nowhere)) q.1 ∙ sym (same_key nowhere p q.0 q.2)
    of_entry (Told t n y) h = absurd (cc)

pub anywhere_first : (r : PlainRecording) (i : ℕ) (p : Pdu) → gets_anywhere r p i ≡ true
    → IfSome (second_at r i) (λ k. (j : ℕ) → gets_anywhere r p j ≡ true → holds (second_at r) k j ≡ true)
anywhere_first r i p = under_one (second_at r) (gets_anywhere r p) (if is_open r.setting.form then order_key nowhere p else None) (got_second r p) i
