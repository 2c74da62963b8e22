-- What the logs say of an order holds in every run that explains them.
use Rattle.std.proofs.Common.{◌≡◌, ⊎_elim, ℕ, zero, suc, ◌<◌, ◌≤◌, List, ◌∷◌, length, cond, Bool, true, false, Option, Some, None, refl, sym, ap, ◌∙◌, arith}
use Rattle.std.specs.Prelude.{nat_eq, slice_get, is_some, ◌&&◌, option_and_then, if◌then◌else◌}
use Rattle.std.specs.Option.{option_map_or, option_or}
use Rattle.std.proofs.lemmas.Bool.{eqb-true, cases_lt}
use Rattle.std.proofs.lemmas.Option.{same_Some}
use Rattle.dis_records.specs.declared.kind.Kind.{Kind}
use Rattle.dis_records.specs.declared.kind.Kind.TheVariants as kinds
use Rattle.siman_pdus.specs.declared.pdu.Pdu.{Pdu}
use Rattle.siman_pdus.specs.declared.pdu.Body.{Body}
use Rattle.siman_pdus.specs.declared.pdu.Body.TheVariants as bodies
use Rattle.siman_pdus.specs.Role.{is_acknowledge_flag}
use Rattle.siman_pdus.specs.Answers.{is_answer_to, matches_kind, acknowledges}
use Rattle.siman_pdus.specs.Same.{is_same_order}
use Rattle.siman_pdus.specs.Spelling.{body_kind}
use Rattle.exercise_model.specs.Entry.{Entry, Sent, Received, Told}
use Rattle.exercise_model.specs.Recording.{PlainRecording}
use Rattle.exercise_model.specs.History.{Send, Get, Tell, History, event_of, log_at, station_at}
use Rattle.exercise_model.specs.Meaning.{meaning}
use Rattle.exercise_model.specs.Exchange.{is_answer_body, is_asked, request_brought, request_taken_up}
use Rattle.exercise_model.specs.Place.{event_at, own_event, log_before, first_below, brings_request, entry_taken_up}
use Rattle.exercise_model.specs.Run.{Explains}
use Rattle.exercise_model.specs.Account.{pair_of_sent, pair_of_entry, pair_of}
use Rattle.exercise_model.proofs.Offered.{first_found, log_before-more, log_before-none}
use Rattle.exercise_review.specs.Entries.{bytes_sent_by, bytes_received_by, bytes_sent, bytes_received, pdu_sent, pdu_received}
use Rattle.exercise_review.specs.Order.{OrderData, gets_order}
use Rattle.exercise_review.specs.Reply.{answers_order, takes_copy, is_reply}
use Rattle.exercise_review.specs.InRuns.{Receives, Replies}
use Rattle.exercise_review.proofs.Events.{entry_of, event_of_entry, got_is, got_event, sent_is, sent_event}

-- ---- tests over entries

-- where the first below n is none, none passes
pub none_passes : (f : ℕ → Bool) (n i : ℕ) → is_some (first_below f n) ≡ false → i < n → f i ≡ true → ⊥
unfolding first_below
none_passes f zero i none within passes = absurd (omega (arith, within))
none_passes f (suc n) i none within passes =
    elim (first_below f n) as (λ o. first_below f n ≡ o → is_some (option_or o (if f n then Some n else None)) ≡ false → ⊥) [
      | Some j ↦ λ _ e. absurd (cc)
      | None ↦ λ before e. ⊎_elim
          (λ (less : i < n). none_passes f n i (ap is_some before) less passes)
          (λ (most : n ≤ i).
          let at : i ≡ n = omega (arith, within, most) in
          absurd (cc (sym e ∙ ap (λ b. is_some (if b then Some n else None)) (ap f (sym at) ∙ passes))))
          (cases_lt i n)
    ] refl none

-- where there is one, it passes
pub some_passes : (f : ℕ → Bool) (n : ℕ) → is_some (first_below f n) ≡ true → (i : ℕ) × (first_below f n ≡ Some i) × (f i ≡ true)
some_passes f n some =
    elim (first_below f n) as (λ o. first_below f n ≡ o → is_some o ≡ true → (i : ℕ) × (o ≡ Some i) × (f i ≡ true)) [
      | None ↦ λ _ e. absurd (cc)
      | Some i ↦ λ found _. (i, refl, (first_found f n i found).passes)
    ] refl some

-- a test of what is there
pub there : {X : Type 0} (test : X → Bool) (o : Option X) → option_map_or test o false ≡ true → (x : X) × (o ≡ Some x) × (test x ≡ true)
there test None e = absurd (cc)
there test (Some x) e = (x, refl, e)

pub both : (b c : Bool) → (b && c) ≡ true → (b ≡ true) × (c ≡ true)
both true c e = (refl, e)
both false c e = absurd (cc)

-- what is meant where something is
pub pdu_in_log : (r : PlainRecording) (o : Option (List ℕ)) (p : Pdu) → option_and_then (meaning r.setting.exercise) o ≡ Some p
    → (b : List ℕ) × (o ≡ Some b) × (meaning r.setting.exercise b ≡ Some p)
pdu_in_log r None p e = absurd (cc)
pdu_in_log r (Some b) p e = (b, refl, e)

-- ---- copies

-- a copy is an event that receives the order
pub copy_received : (r : PlainRecording) (h : History) (o : OrderData) (t i : ℕ) → Explains r h → gets_order r t o.request i ≡ true → Receives r h o t
unfolding gets_order pdu_received
copy_received r h o t i explains gets =
    let found = there (is_same_order o.request) (option_and_then (meaning r.setting.exercise) (bytes_received r t i)) gets in
    let meant = pdu_in_log r (bytes_received r t i) found.0 found.1 in
    let event = event_of_entry r h t i (Get t meant.0) explains (got_event r t i meant.0 meant.1) in
    record {
      before = event.before;
      bytes = meant.0;
      request = found.0;
      received = event.within;
      meant = meant.2;
      same = found.2;
    }

-- and the other way round
pub received_copy : (r : PlainRecording) (h : History) (o : OrderData) (t : ℕ) → Explains r h → Receives r h o t
    → (i : ℕ) × (i < length r.entries) × (gets_order r t o.request i ≡ true)
unfolding gets_order pdu_received
received_copy r h o t explains got =
    let entry = entry_of r h got.before (Get t got.bytes) t explains refl got.received in (
      entry.0,
      entry.1,
      ap (λ x. option_map_or (is_same_order o.request) (option_and_then (meaning r.setting.exercise) x) false)
          (got_is r t entry.0 got.bytes entry.2.own) ∙ ap (λ x. option_map_or (is_same_order o.request) x false) got.meant ∙ got.same,
    )

-- ---- replies

-- what answers a request is an answer
flag_answers : (flag : ℕ) (kind : Kind) → acknowledges flag kind ≡ true → is_acknowledge_flag flag ≡ true
flag_answers flag kinds.CreateEntity e = ap is_acknowledge_flag (eqb-true flag 1 e)
flag_answers flag kinds.RemoveEntity e = ap is_acknowledge_flag (eqb-true flag 2 e)
flag_answers flag kinds.StartResume e = ap is_acknowledge_flag (eqb-true flag 3 e)
flag_answers flag kinds.StopFreeze e = ap is_acknowledge_flag (eqb-true flag 4 e)
flag_answers flag kinds.Acknowledge e = absurd (cc)
flag_answers flag kinds.ActionRequest e = absurd (cc)
flag_answers flag kinds.ActionResponse e = absurd (cc)
flag_answers flag kinds.DataQuery e = absurd (cc)
flag_answers flag kinds.SetData e = absurd (cc)
flag_answers flag kinds.DataPdu e = absurd (cc)
flag_answers flag kinds.EventReport e = absurd (cc)
flag_answers flag kinds.Comment e = absurd (cc)

body_answers : (body : Body) (kind : Kind) → matches_kind body kind ≡ true → is_answer_body body ≡ true
body_answers (bodies.Acknowledge flag response request) kind e = rw (flag_answers flag kind e) refl
body_answers (bodies.ActionResponse request status datums) kind e = refl
body_answers (bodies.DataPdu request datums) kind e = refl
body_answers (bodies.CreateEntity request) kind e = absurd (cc)
body_answers (bodies.RemoveEntity request) kind e = absurd (cc)
body_answers (bodies.StartResume real sim request) kind e = absurd (cc)
body_answers (bodies.StopFreeze real reason behaviour request) kind e = absurd (cc)
body_answers (bodies.ActionRequest request action datums) kind e = absurd (cc)
body_answers (bodies.DataQuery request interval ids) kind e = absurd (cc)
body_answers (bodies.SetData request datums) kind e = absurd (cc)
body_answers (bodies.EventReport event datums) kind e = absurd (cc)
body_answers (bodies.Comment datums) kind e = absurd (cc)

pub answers_is : (p q : Pdu) → is_answer_to p q ≡ true → is_answer_body p.body ≡ true
answers_is p q e = body_answers p.body (body_kind q.body) (both (matches_kind p.body (body_kind q.body)) _ e).0

-- what an entry of station s brings for the answer p
abbrev brought : PlainRecording → ℕ → Pdu → ℕ → Option Pdu
brought r s p j = option_and_then (request_brought r.setting.exercise (station_at r s).address p) (own_event r s j)

some_or : (o q : Option Pdu) → is_some o ≡ true → option_or o q ≡ o
some_or None q e = absurd (cc)
some_or (Some x) q e = refl

request_more : (r : PlainRecording) (s n : ℕ) (p : Pdu) → request_taken_up r.setting.exercise (station_at r s).address p (log_before r s (suc n))
    ≡ option_or (request_taken_up r.setting.exercise (station_at r s).address p (log_before r s n)) (brought r s p n)
unfolding request_taken_up
request_more r s n p =
    ap (request_taken_up r.setting.exercise (station_at r s).address p) (log_before-more r s n)
    ∙ elim (own_event r s n) as (λ o. request_taken_up r.setting.exercise (station_at r s).address p (option_map_or (λ v. v ∷ log_before r s n) o (log_before r s n))
    ≡ option_or (request_taken_up r.setting.exercise (station_at r s).address p (log_before r s n)) (option_and_then (request_brought r.setting.exercise (station_at r s).address p) o)) [
      | None ↦ or_none (request_taken_up r.setting.exercise (station_at r s).address p (log_before r s n))
      | Some v ↦ refl
    ]
  where
    or_none : (o : Option Pdu) → o ≡ option_or o None
    or_none None = refl
    or_none (Some x) = refl

-- the request that is taken up is what its entry brings
by_entry : (r : PlainRecording) (s : ℕ) (p : Pdu) (n : ℕ)
    → request_taken_up r.setting.exercise (station_at r s).address p (log_before r s n) ≡ option_and_then (brought r s p) (entry_taken_up r s p n)
unfolding entry_taken_up first_below request_taken_up
by_entry r s p zero = ap (request_taken_up r.setting.exercise (station_at r s).address p) (log_before-none r s)
by_entry r s p (suc n) =
    request_more r s n p
    ∙ ap (λ o. option_or o (brought r s p n)) (by_entry r s p n)
    ∙ elim (first_below (brings_request r s p) n) as (λ o. first_below (brings_request r s p) n ≡ o
    → option_or (option_and_then (brought r s p) o) (brought r s p n) ≡ option_and_then (brought r s p) (option_or o (if is_some (brought r s p n) then Some n else None))) [
      | None ↦ λ _. elim (brought r s p n) as (λ b. brought r s p n ≡ b → b ≡ option_and_then (brought r s p) (if is_some b then Some n else None)) [
        | None ↦ λ _. refl
        | Some q ↦ λ e. sym e
      ] refl
      | Some j ↦ λ found. some_or (brought r s p j) (brought r s p n) (first_found (brings_request r s p) n j found).passes
    ] refl

-- an entry that brings a request receives it
brings_got : (r : PlainRecording) (s : ℕ) (p q : Pdu) (j : ℕ) → brought r s p j ≡ Some q → pdu_received r s j ≡ Some q
unfolding pdu_received own_event bytes_received
brings_got r s p q j =
    elim (slice_get r.entries j) as (λ o. option_and_then (request_brought r.setting.exercise (station_at r s).address p) (option_and_then (λ e. event_at s (event_of e)) o) ≡ Some q
    → option_and_then (meaning r.setting.exercise) (option_and_then (bytes_received_by s) o) ≡ Some q) [
      | None ↦ λ e. absurd (cc)
      | Some e ↦ of_entry e
    ]
  where
    asked : (o : Option Pdu) → option_and_then (λ m. if is_asked (station_at r s).address p m then Some m else None) o ≡ Some q → o ≡ Some q
    asked None = λ e. absurd (cc)
    asked (Some m) = elim (is_asked (station_at r s).address p m) as (λ b. (if b then Some m else None) ≡ Some q → Some m ≡ Some q) [ true ↦ λ e. e | false ↦ λ e. absurd (cc) ]

    of_entry : (e : Entry) → option_and_then (request_brought r.setting.exercise (station_at r s).address p) (event_at s (event_of e)) ≡ Some q
        → option_and_then (meaning r.setting.exercise) (bytes_received_by s e) ≡ Some q
    of_entry (Sent t stamp b) = elim (nat_eq t s) as (λ k. option_and_then (request_brought r.setting.exercise (station_at r s).address p) (cond k (Some (Send t b)) None) ≡ Some q
        → None ≡ Some q) [ true ↦ λ e. absurd (cc) | false ↦ λ e. absurd (cc) ]
    of_entry (Received t stamp b) = elim (nat_eq t s) as (λ k. option_and_then (request_brought r.setting.exercise (station_at r s).address p) (cond k (Some (Get t b)) None) ≡ Some q
        → option_and_then (meaning r.setting.exercise) (cond k (Some b) None) ≡ Some q) [ true ↦ asked (meaning r.setting.exercise b) | false ↦ λ e. absurd (cc) ]
    of_entry (Told t n y) = elim (nat_eq t s) as (λ k. option_and_then (request_brought r.setting.exercise (station_at r s).address p) (cond k (Some (Tell t n y)) None) ≡ Some q
        → None ≡ Some q) [ true ↦ λ e. absurd (cc) | false ↦ λ e. absurd (cc) ]

-- the pair of an answer that station t sends is the entry that it takes up
pair_sent : (r : PlainRecording) (t i : ℕ) (b : List ℕ) (p : Pdu) → bytes_sent r t i ≡ Some b → meaning r.setting.exercise b ≡ Some p → is_answer_body p.body ≡ true
    → pair_of r i ≡ entry_taken_up r t p i
unfolding pair_of bytes_sent
pair_sent r t i b p sent means answer =
    elim (slice_get r.entries i) as (λ o. option_and_then (bytes_sent_by t) o ≡ Some b → option_and_then (pair_of_entry r i) o ≡ entry_taken_up r t p i) [
      | None ↦ λ e. absurd (cc)
      | Some e ↦ of_entry e
    ] sent
  where
    of_entry : (e : Entry) → bytes_sent_by t e ≡ Some b → pair_of_entry r i e ≡ entry_taken_up r t p i
    of_entry (Sent s stamp c) =
        elim (nat_eq s t) as (λ k. nat_eq s t ≡ k → cond k (Some c) None ≡ Some b → option_and_then (pair_of_sent r s i) (meaning r.setting.exercise c) ≡ entry_taken_up r t p i) [
          | true ↦ λ own e. ap (λ k. option_and_then (pair_of_sent r k i) (meaning r.setting.exercise c)) (eqb-true s t own)
              ∙ ap (λ y. option_and_then (pair_of_sent r t i) (meaning r.setting.exercise y)) (same_Some c b e)
              ∙ ap (option_and_then (pair_of_sent r t i)) means
              ∙ ap (λ q. if q then entry_taken_up r t p i else None) answer
          | false ↦ λ own e. absurd (cc)
        ] refl
    of_entry (Received s stamp c) = λ e. absurd (cc)
    of_entry (Told s n y) = λ e. absurd (cc)

gets_brought : (r : PlainRecording) (o : OrderData) (t j : ℕ) (p : Pdu) (x : Option Pdu) → brought r t p j ≡ x → is_some x ≡ true
    → gets_order r t o.request j ≡ option_map_or (is_same_order o.request) x false
unfolding gets_order
gets_brought r o t j p None is some = absurd (cc)
gets_brought r o t j p (Some q) is some = ap (λ x. option_map_or (is_same_order o.request) x false) (brings_got r t p q j is)

-- what an answer takes up is a copy exactly where the request is the order
takes_is : (r : PlainRecording) (o : OrderData) (t i : ℕ) (b : List ℕ) (p : Pdu) → bytes_sent r t i ≡ Some b → meaning r.setting.exercise b ≡ Some p
    → is_answer_body p.body ≡ true
    → takes_copy r o t i ≡ option_map_or (is_same_order o.request) (request_taken_up r.setting.exercise (station_at r t).address p (log_before r t i)) false
unfolding entry_taken_up
takes_is r o t i b p sent means answer =
    ap (λ x. option_map_or (gets_order r t o.request) x false) (pair_sent r t i b p sent means answer)
    ∙ elim (first_below (brings_request r t p) i) as (λ x. first_below (brings_request r t p) i ≡ x
    → option_map_or (gets_order r t o.request) x false ≡ option_map_or (is_same_order o.request) (option_and_then (brought r t p) x) false) [
      | None ↦ λ _. refl
      | Some j ↦ λ found. gets_brought r o t j p (brought r t p j) refl (first_found (brings_request r t p) i j found).passes
    ] refl
    ∙ ap (λ x. option_map_or (is_same_order o.request) x false) (sym (by_entry r t p i))

-- a reply, as it is sent in a run
pub record SentReply (r : PlainRecording) (h : History) (o : OrderData) (t i : ℕ) : Type 0 where
  pub bytes : List ℕ
  pub at : bytes_sent r t i ≡ Some bytes
  pub place : History
  pub log : log_at t place ≡ log_before r t i
  pub reply : Replies r h place o t bytes

-- A REPLY is an event that replies to the order
pub reply_sent : (r : PlainRecording) (h : History) (o : OrderData) (t i : ℕ) → Explains r h → is_reply r o t i ≡ true → SentReply r h o t i
unfolding is_reply pdu_sent
reply_sent r h o t i explains replies =
    let parts = both (answers_order r o t i) (takes_copy r o t i) replies in
    let answer = there (λ (p : Pdu). is_answer_to p o.request) (option_and_then (meaning r.setting.exercise) (bytes_sent r t i)) parts.0 in
    let p : Pdu = answer.0 in
    let meant = pdu_in_log r (bytes_sent r t i) p answer.1 in
    let event = event_of_entry r h t i (Send t meant.0) explains (sent_event r t i meant.0 meant.1) in
    let taken = there (is_same_order o.request) (request_taken_up r.setting.exercise (station_at r t).address p (log_before r t i))
    (sym (takes_is r o t i meant.0 p meant.1 meant.2 (answers_is p o.request answer.2)) ∙ parts.1) in
    record {
      bytes = meant.0;
      at = meant.1;
      place = event.before;
      log = event.log;
      reply = record {
        answer = p;
        taken = taken.0;
        sent = event.within;
        meant = meant.2;
        answers = answer.2;
        takes = ap (request_taken_up r.setting.exercise (station_at r t).address p) event.log ∙ taken.1;
        same = taken.2;
      };
    }

-- and the other way round
pub sent_reply : (r : PlainRecording) (h place : History) (o : OrderData) (t : ℕ) (b : List ℕ) → Explains r h → Replies r h place o t b
    → (i : ℕ) × (i < length r.entries) × (bytes_sent r t i ≡ Some b) × (is_reply r o t i ≡ true)
unfolding is_reply pdu_sent
sent_reply r h place o t b explains reply =
    let x = r.setting.exercise in
    let p = reply.answer in
    let entry = entry_of r h place (Send t b) t explains refl reply.sent in
    let at : bytes_sent r t entry.0 ≡ Some b = sent_is r t entry.0 b entry.2.own in
    let answers : answers_order r o t entry.0 ≡ true =
    ap (λ y. option_map_or (λ p. is_answer_to p o.request) (option_and_then (meaning x) y) false) at
    ∙ ap (λ y. option_map_or (λ p. is_answer_to p o.request) y false) reply.meant ∙ reply.answers in
    let takes : takes_copy r o t entry.0 ≡ true =
    takes_is r o t entry.0 b p at reply.meant (answers_is p o.request reply.answers)
    ∙ ap (λ l. option_map_or (is_same_order o.request) (request_taken_up x (station_at r t).address p l) false) entry.2.log
    ∙ ap (λ y. option_map_or (is_same_order o.request) y false) reply.takes ∙ reply.same in
    (entry.0, entry.1, at, ap (λ c. c && takes_copy r o t entry.0) answers ∙ takes)

-- a reply takes up a copy
pub reply_copied : (r : PlainRecording) (h place : History) (o : OrderData) (t : ℕ) (b : List ℕ) → Explains r h → Replies r h place o t b → Receives r h o t
unfolding is_reply
reply_copied r h place o t b explains reply =
    let sent = sent_reply r h place o t b explains reply in
    let parts = both (answers_order r o t sent.0) (takes_copy r o t sent.0) sent.3 in
    let taken = there (gets_order r t o.request) (pair_of r sent.0) parts.1 in
    copy_received r h o t taken.0 explains taken.2
