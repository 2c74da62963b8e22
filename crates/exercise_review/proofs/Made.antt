-- A change that a log tells is carried out in every run that explains it.
use Rattle.std.proofs.Common.{◌≡◌, ℕ, List, length, cond, Bool, true, false, Option, Some, None, refl, sym, ap, ◌∙◌, subst}
use Rattle.std.specs.Prelude.{nat_eq, slice_get, is_some, not, ◌&&◌, option_and_then}
use Rattle.std.specs.Option.{option_map_or}
use Rattle.std.proofs.lemmas.Bool.{eqb-true, eq-eqb}
use Rattle.std.proofs.lemmas.Option.{same_Some}
use Rattle.siman_pdus.specs.declared.pdu.Pdu.{Pdu}
use Rattle.siman_pdus.specs.Answers.{is_answer_to}
use Rattle.siman_pdus.specs.Same.{is_same_order}
use Rattle.siman_pdus.proofs.Offered.{order_decides}
use Rattle.exercise_model.specs.declared.acknowledge.AcknowledgeKey.{AcknowledgeKey}
use Rattle.exercise_model.specs.declared.state.Change.{Change}
use Rattle.exercise_model.specs.Station.{StationData}
use Rattle.exercise_model.specs.Entry.{Entry, Sent, Received, Told}
use Rattle.exercise_model.specs.Recording.{PlainRecording}
use Rattle.exercise_model.specs.History.{Send, History, event_of, log_at, station_at}
use Rattle.exercise_model.specs.Meaning.{meaning}
use Rattle.exercise_model.specs.Exchange.{request_taken_up}
use Rattle.exercise_model.specs.Change.{able, responds, key_of, was_acknowledged, is_change}
use Rattle.exercise_model.specs.State.{change_of, carried_out, change_by}
use Rattle.exercise_model.specs.Place.{event_at, own_event, log_before}
use Rattle.exercise_model.specs.Run.{Explains, Represents, Contains}
use Rattle.exercise_model.specs.Account.{changed_by, change_at}
use Rattle.exercise_model.specs.Answered.{IsFirstAble}
use Rattle.exercise_model.specs.Headline.{HadRequest}
use Rattle.exercise_model.specs.Knowledge.{IsCarriedOut}
use Rattle.exercise_model.proofs.Offered.{carried_out_where_allowed, first_found, had_where_allowed}
use Rattle.exercise_review.specs.Entries.{bytes_sent_by, bytes_sent}
use Rattle.exercise_review.specs.Order.{OrderData}
use Rattle.exercise_review.specs.Reply.{is_reply, is_changing_reply, change_of_order}
use Rattle.exercise_review.specs.Carried.{IsMade, IsDone}
use Rattle.exercise_review.proofs.Events.{event_of_entry, sent_event}
use Rattle.exercise_review.proofs.Runs.{both, answers_is, reply_sent}
use Rattle.exercise_review.proofs.Heard.{allowed_at}

-- what an entry sends that changes something: an answer that is a Change, takes up a request and answers it
record Changes (r : PlainRecording) (i : ℕ) (c : Change) (t : ℕ) (bytes : List ℕ) : Type 0 where
  stamp : ℕ
  answer : Pdu
  request : Pdu
  at : slice_get r.entries i ≡ Some (Sent t stamp bytes)
  meant : meaning r.setting.exercise bytes ≡ Some answer
  change : is_change r.setting.exercise answer (log_before r t i) ≡ true
  taken : request_taken_up r.setting.exercise (station_at r t).address answer (log_before r t i) ≡ Some request
  answers : is_answer_to answer request ≡ true
  is : change_of answer request ≡ c

-- by some station, in some datagram
abbrev Somewhere : PlainRecording → ℕ → Change → Type 0
Somewhere r i c = (t : ℕ) × (bytes : List ℕ) × Changes r i c t bytes

changes : (r : PlainRecording) (i : ℕ) (c : Change) → change_at r i ≡ Some c → Somewhere r i c
unfolding change_at change_by
changes r i c =
    elim (slice_get r.entries i) as (λ o. slice_get r.entries i ≡ o → option_and_then (λ e. changed_by r i (event_of e)) o ≡ Some c → Somewhere r i c) [
      | None ↦ λ _ e. absurd (cc)
      | Some e ↦ λ at. of_entry e at
    ] refl
  where
    of_test : (s stamp : ℕ) (b : List ℕ) → slice_get r.entries i ≡ Some (Sent s stamp b) → (p q : Pdu) → meaning r.setting.exercise b ≡ Some p
        → is_change r.setting.exercise p (log_before r s i) ≡ true
        → request_taken_up r.setting.exercise (station_at r s).address p (log_before r s i) ≡ Some q
        → (t : Bool) → is_answer_to p q ≡ t → cond t (Some (change_of p q)) None ≡ Some c → Somewhere r i c
    of_test s stamp b at p q meant change taken false answers e = absurd (cc)
    of_test s stamp b at p q meant change taken true answers e = (
      s,
      b,
      record {
        stamp = stamp;
        answer = p;
        request = q;
        at = at;
        meant = meant;
        change = change;
        taken = taken;
        answers = answers;
        is = same_Some (change_of p q) c e;
      },
    )

    of_request : (s stamp : ℕ) (b : List ℕ) → slice_get r.entries i ≡ Some (Sent s stamp b) → (p : Pdu) → meaning r.setting.exercise b ≡ Some p
        → is_change r.setting.exercise p (log_before r s i) ≡ true
        → (o : Option Pdu) → request_taken_up r.setting.exercise (station_at r s).address p (log_before r s i) ≡ o
        → option_and_then (carried_out p) o ≡ Some c → Somewhere r i c
    of_request s stamp b at p meant change None taken e = absurd (cc)
    of_request s stamp b at p meant change (Some q) taken e = of_test s stamp b at p q meant change taken (is_answer_to p q) refl e

    of_change : (s stamp : ℕ) (b : List ℕ) → slice_get r.entries i ≡ Some (Sent s stamp b) → (p : Pdu) → meaning r.setting.exercise b ≡ Some p
        → (t : Bool) → is_change r.setting.exercise p (log_before r s i) ≡ t
        → cond t (option_and_then (carried_out p) (request_taken_up r.setting.exercise (station_at r s).address p (log_before r s i))) None ≡ Some c
        → Somewhere r i c
    of_change s stamp b at p meant false change e = absurd (cc)
    of_change s stamp b at p meant true change e =
        of_request s stamp b at p meant change (request_taken_up r.setting.exercise (station_at r s).address p (log_before r s i)) refl e

    of_sent : (s stamp : ℕ) (b : List ℕ) → slice_get r.entries i ≡ Some (Sent s stamp b) → (o : Option Pdu) → meaning r.setting.exercise b ≡ o
        → option_and_then (change_by r.setting.exercise (station_at r s) (log_before r s i)) o ≡ Some c → Somewhere r i c
    of_sent s stamp b at None meant e = absurd (cc)
    of_sent s stamp b at (Some p) meant e = of_change s stamp b at p meant (is_change r.setting.exercise p (log_before r s i)) refl e

    of_entry : (e : Entry) → slice_get r.entries i ≡ Some e → changed_by r i (event_of e) ≡ Some c → Somewhere r i c
    of_entry (Sent s stamp b) at e = of_sent s stamp b at (meaning r.setting.exercise b) refl e
    of_entry (Received s stamp b) at e = absurd (cc)
    of_entry (Told s n y) at e = absurd (cc)

-- an entry that a station sends is its event
pub sent_own : (r : PlainRecording) (t i stamp : ℕ) (b : List ℕ) → slice_get r.entries i ≡ Some (Sent t stamp b) → own_event r t i ≡ Some (Send t b)
unfolding own_event
sent_own r t i stamp b at =
    ap (option_and_then (λ e. event_at t (event_of e))) at ∙ ap (λ c. cond c (Some (Send t b)) None) (eq-eqb t t refl)

-- a Change is Able, and its key is fresh
change_able : (x : ℕ) (p : Pdu) (log : History) → is_change x p log ≡ true → responds able p ≡ true
unfolding is_change
change_able x p log change = (both (responds able p) (option_map_or (λ k. not (was_acknowledged x able k log)) (key_of p) false) change).0

key_fresh : (x : ℕ) (p : Pdu) (log : History) → is_change x p log ≡ true → (k : AcknowledgeKey) → key_of p ≡ Some k → was_acknowledged x able k log ≡ false
unfolding is_change
key_fresh x p log change k under =
    not_true (was_acknowledged x able k log)
    (sym (ap (λ o. option_map_or (λ k. not (was_acknowledged x able k log)) o false) under)
    ∙ (both (responds able p) (option_map_or (λ k. not (was_acknowledged x able k log)) (key_of p) false) change).1)
  where
    not_true : (b : Bool) → not b ≡ true → b ≡ false
    not_true true e = absurd (cc)
    not_true false e = refl

-- ---- in a run

-- where the entry stands in a run, what it changes is carried out
carried : (r : PlainRecording) (h place : History) (t i : ℕ) (b : List ℕ) (c : Change) → Explains r h → Contains h place (Send t b)
    → log_at t place ≡ log_before r t i → Changes r i c t b → IsCarriedOut r t place b c
carried r h place t i b c explains within log found =
    let x = r.setting.exercise in
    let p : Pdu = found.answer in
    let o : StationData = station_at r t in
    let allowed = allowed_at r.setting h place (Send t b) explains.run within in
    let had : HadRequest r place t p = had_where_allowed r place t b p allowed found.meant (answers_is p found.request found.answers) in
    let taken : request_taken_up x o.address p (log_at t place) ≡ Some found.request = ap (request_taken_up x o.address p) log ∙ found.taken in
    let change : is_change x p (log_at t place) ≡ true = ap (is_change x p) log ∙ found.change in
    let is_able : responds able p ≡ true = change_able x p (log_at t place) change in
    let first : IsFirstAble x o (log_at t place) b had.request p = record {
      answer = found.meant;
      is_able = is_able;
      taken = had.first;
      answers = had.answers;
      fresh = key_fresh x p (log_at t place) change;
    } in
    subst (IsCarriedOut r t place b) (ap (change_of p) (same_Some had.request found.request (sym had.first ∙ taken)) ∙ found.is)
    (carried_out_where_allowed r place t b p allowed found.meant is_able change had first)

stands : (r : PlainRecording) (place : History) (t i : ℕ) (b : List ℕ) → own_event r t i ≡ Some (Send t b) → log_at t place ≡ log_before r t i
    → Represents r i place (Send t b)
stands r place t i b own log = record { event = own; place = ap length log }

-- A CHANGE THAT A LOG TELLS is carried out
pub change_in_run : (r : PlainRecording) (h : History) (i : ℕ) (c : Change) → Explains r h → change_at r i ≡ Some c → IsMade r h i c
change_in_run r h i c explains told =
    let found = changes r i c told in
    let t : ℕ = found.0 in
    let b : List ℕ = found.1 in
    let own = sent_own r t i found.2.stamp b found.2.at in
    let event = event_of_entry r h t i (Send t b) explains own in
    record {
      station = t;
      place = event.before;
      bytes = b;
      sent = event.within;
      stands = stands r event.before t i b own event.log;
      carried_out = carried r h event.before t i b c explains event.within event.log found.2;
    }

-- ---- of an order

-- what an entry sends is sent by one station, in one datagram
bytes_here : (r : PlainRecording) (t s i stamp : ℕ) (b c : List ℕ) → slice_get r.entries i ≡ Some (Sent s stamp c) → bytes_sent r t i ≡ Some b → (s ≡ t) × (c ≡ b)
unfolding bytes_sent
bytes_here r t s i stamp b c at sent =
    elim (nat_eq s t) as (λ q. nat_eq s t ≡ q → cond q (Some c) None ≡ Some b → (s ≡ t) × (c ≡ b)) [
      | true ↦ λ own e. (eqb-true s t own, same_Some c b e)
      | false ↦ λ own e. absurd (cc)
    ] refl (sym (ap (option_and_then (bytes_sent_by t)) at) ∙ sent)

changes_there : (r : PlainRecording) (i t : ℕ) (c : Change) (b : List ℕ) → change_at r i ≡ Some c → bytes_sent r t i ≡ Some b → Changes r i c t b
changes_there r i t c b told sent =
    let found = changes r i c told in
    let same = bytes_here r t found.0 i found.2.stamp b found.1 found.2.at sent in
    subst (Changes r i c t) same.1 (subst (λ s. Changes r i c s found.1) same.0 found.2)

-- what answers the same order changes the same
same_change : (p q taken : Pdu) → is_same_order q taken ≡ true → change_of p q ≡ change_of p taken
same_change p q taken same = ap (change_of p) ((order_decides q taken).0 same)

some_change : (o : Option Change) → is_some o ≡ true → (c : Change) × (o ≡ Some c)
some_change None e = absurd (cc)
some_change (Some c) e = (c, refl)

-- A CHANGE THAT IS TOLD OF AN ORDER is what the order asks for, and is carried out
pub order_in_run : (r : PlainRecording) (h : History) (o : OrderData) (t i : ℕ) → Explains r h → change_of_order r o t ≡ Some i → IsDone r h o t i
unfolding change_of_order is_changing_reply
order_in_run r h o t i explains told =
    let parts = both (is_reply r o t i) (is_some (change_at r i)) (first_found (λ j. is_reply r o t j && is_some (change_at r j)) (length r.entries) i told).passes in
    let c = some_change (change_at r i) parts.1 in
    let sent = reply_sent r h o t i explains parts.0 in
    let reply = sent.reply in
    let x = r.setting.exercise in
    let found = changes_there r i t c.0 sent.bytes c.1 sent.at in
    let answer : found.answer ≡ reply.answer = same_Some found.answer reply.answer (sym found.meant ∙ reply.meant) in
    let request : found.request ≡ reply.taken =
    same_Some found.request reply.taken
    (sym found.taken ∙ ap (request_taken_up x (station_at r t).address found.answer) (sym sent.log)
    ∙ ap (λ p. request_taken_up x (station_at r t).address p (log_at t sent.place)) answer ∙ reply.takes) in
    let is : c.0 ≡ change_of reply.answer o.request =
    sym found.is ∙ ap (λ p. change_of p found.request) answer ∙ ap (change_of reply.answer) request
    ∙ sym (same_change reply.answer o.request reply.taken reply.same) in
    record {
      place = sent.place;
      bytes = sent.bytes;
      reply = reply;
      stands = stands r sent.place t i sent.bytes (sent_event r t i sent.bytes sent.at) sent.log;
      change = c.1 ∙ ap Some is;
      carried_out = subst (IsCarriedOut r t sent.place sent.bytes) is (carried r h sent.place t i sent.bytes c.0 explains reply.sent sent.log found);
    }
