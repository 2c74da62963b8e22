-- What answers an order takes up that order, and no other.
use Rattle.std.proofs.Common.{◌≡◌, ℕ, ◌<◌, List, length, true, Some, ◌∙◌}
use Rattle.std.specs.Prelude.{◌==◌}
use Rattle.std.proofs.lemmas.Bool.{and_from, eqb-true, eq-eqb}
use Rattle.dis_records.specs.declared.entity.EntityId.{EntityId}
use Rattle.dis_records.specs.declared.address.SiteApplication.{SiteApplication}
use Rattle.dis_records.specs.Entity.{site_application_of, is_addressed}
use Rattle.siman_pdus.specs.declared.pdu.Pdu.{Pdu}
use Rattle.siman_pdus.specs.Role.{is_request_body, request_id_of}
use Rattle.siman_pdus.specs.Answers.{same_id, same_pair, matches_kind, is_answer_to}
use Rattle.siman_pdus.specs.Same.{is_same_order}
use Rattle.siman_pdus.specs.Spelling.{body_kind}
use Rattle.exercise_model.specs.Entry.{Sent}
use Rattle.exercise_model.specs.Recording.{PlainRecording, IsRecording}
use Rattle.exercise_model.specs.History.{Send, Get, History, log_at, station_at}
use Rattle.exercise_model.specs.Meaning.{meaning}
use Rattle.exercise_model.specs.Setting.{is_from}
use Rattle.exercise_model.specs.Exchange.{is_asked, request_taken_up}
use Rattle.exercise_model.specs.Run.{Explains, Contains}
use Rattle.exercise_model.specs.Headline.{HadRequest}
use Rattle.exercise_model.proofs.Offered.{contains_on, entry_station, explained_holds, own_address}
use Rattle.exercise_review.specs.Order.{OrderData, order_at}
use Rattle.exercise_review.specs.InRuns.{Replies, HasReplied, HasSettled, Hears}
use Rattle.exercise_review.specs.Answering.{SendsAnswer, SendsSettling, GetsSettling}
use Rattle.exercise_review.proofs.Events.{event_of_entry}
use Rattle.exercise_review.proofs.Runs.{both, answers_is}
use Rattle.exercise_review.proofs.Heard.{allowed_at, sent_before}
use Rattle.exercise_review.proofs.Made.{sent_own}
use Rattle.exercise_review.proofs.OneOrder.{ids_same, one_order, IsOrderOf, order_made}

-- ---- parts of tests

-- a request that is asked for an answer
pub record Asked (a : SiteApplication) (p q : Pdu) : Type 0 where
  pub request : is_request_body q.body ≡ true
  pub id : same_id (request_id_of p.body) (request_id_of q.body) ≡ true
  pub back : same_pair q.origin p.target ≡ true

asked_parts : (a : SiteApplication) (p q : Pdu) → is_asked a p q ≡ true → Asked a p q
asked_parts a p q asked =
    let one = both (is_request_body q.body) _ asked in
    let two = both (is_addressed q.target a) _ one.1 in
    let three = both (same_id (request_id_of p.body) (request_id_of q.body)) _ two.1 in
    record { request = one.0; id = three.0; back = three.1 }

-- an answer to a request
pub record Answering (p q : Pdu) : Type 0 where
  pub id : same_id (request_id_of p.body) (request_id_of q.body) ≡ true
  pub back : same_pair p.target q.origin ≡ true
  pub addressed : is_addressed q.target (site_application_of p.origin) ≡ true

pub answer_parts : (p q : Pdu) → is_answer_to p q ≡ true → Answering p q
answer_parts p q answers =
    let one = both (matches_kind p.body (body_kind q.body)) _ answers in
    let two = both (same_id (request_id_of p.body) (request_id_of q.body)) _ one.1 in
    let three = both (same_pair p.target q.origin) _ two.1 in
    let four = both (is_addressed q.target (site_application_of p.origin)) _ three.1 in
    record { id = two.0; back = three.0; addressed = four.0 }

-- what comes from where another comes from
from_same : (a : SiteApplication) (q o : Pdu) (k : EntityId) → same_pair q.origin k ≡ true → same_pair k o.origin ≡ true → is_from a o ≡ true → is_from a q ≡ true
from_same a q o k one two own =
    let x = both (q.origin.site == k.site) (q.origin.application == k.application) one in
    let y = both (k.site == o.origin.site) (k.application == o.origin.application) two in
    let z = both (o.origin.site == a.site) (o.origin.application == a.application) own in
    and_from _ _
    (eq-eqb q.origin.site a.site (eqb-true _ _ x.0 ∙ eqb-true _ _ y.0 ∙ eqb-true _ _ z.0))
    (eq-eqb q.origin.application a.application (eqb-true _ _ x.1 ∙ eqb-true _ _ y.1 ∙ eqb-true _ _ z.1))

-- ---- what is taken up

-- right after `place` the answer p of station t takes up the order, which station s had sent before
pub record TakesUp (r : PlainRecording) (o : OrderData) (s t : ℕ) (place : History) (p : Pdu) : Type 0 where
  pub request : Pdu
  pub first : request_taken_up r.setting.exercise (station_at r t).address p (log_at t place) ≡ Some request
  pub same : is_same_order o.request request ≡ true
  pub earlier : History
  pub bytes : List ℕ
  pub sent : Contains place earlier (Send s bytes)
  pub meant : meaning r.setting.exercise bytes ≡ Some request

-- WHAT ANSWERS AN ORDER TAKES IT UP
pub taken_by : (r : PlainRecording) (h place : History) (i s t : ℕ) (o : OrderData) (b : List ℕ) (p : Pdu) → IsRecording r → Explains r h → IsOrderOf r i s o
    → Contains h place (Send t b) → meaning r.setting.exercise b ≡ Some p → is_answer_to p o.request ≡ true → TakesUp r o s t place p
taken_by r h place i s t o b p limits explains order within meant answers =
    let at = event_of_entry r h s i (Send s order.bytes) explains (sent_own r s i order.stamp order.bytes order.at) in
    let here : is_from (station_at r s).address o.request ≡ true =
    own_address r at.before s order.bytes o.request (allowed_at r.setting h at.before (Send s order.bytes) explains.run at.within) order.meant in
    let had : HadRequest r place t p = (explained_holds r h limits explains).answered place t b p within meant (answers_is p o.request answers) in
    let q : Pdu = had.request in
    let asked = asked_parts (station_at r t).address p q had.asked in
    let fits = answer_parts p o.request answers in
    let own : is_from (station_at r s).address q ≡ true = from_same (station_at r s).address q o.request p.target asked.back fits.back here in
    let recorded : s < length r.setting.stations =
    entry_station (length r.setting.stations) r.entries i (Sent s order.stamp order.bytes) limits.each_entry order.at in
    let got : Contains h had.earlier (Get t had.bytes) = contains_on h place had.earlier (Get t had.bytes) (Send t b) within had.received in
    let sent = sent_before r h had.earlier t s had.bytes q limits explains recorded got had.meant own in
    let inside : Contains place sent.0 (Send s had.bytes) = contains_on place had.earlier sent.0 (Send s had.bytes) (Get t had.bytes) had.received sent.1 in
    let whole : Contains h sent.0 (Send s had.bytes) = contains_on h place sent.0 (Send s had.bytes) (Send t b) within inside in
    record {
      request = q;
      first = had.first;
      same = one_order r h at.before sent.0 s order.bytes had.bytes o.request q explains at.within whole order.meant had.meant order.request asked.request
          (ids_same (request_id_of p.body) (request_id_of o.request.body) (request_id_of q.body) fits.id asked.id)
          (ids_same (request_id_of p.body) (request_id_of q.body) (request_id_of o.request.body) asked.id fits.id);
      earlier = sent.0;
      bytes = had.bytes;
      sent = inside;
      meant = had.meant;
    }

-- so it is a reply
pub replies_there : (r : PlainRecording) (h place : History) (i s t : ℕ) (o : OrderData) (b : List ℕ) (p : Pdu) → IsRecording r → Explains r h → IsOrderOf r i s o
    → Contains h place (Send t b) → meaning r.setting.exercise b ≡ Some p → is_answer_to p o.request ≡ true → Replies r h place o t b
replies_there r h place i s t o b p limits explains order within meant answers =
    let taken = taken_by r h place i s t o b p limits explains order within meant answers in
    record { answer = p; taken = taken.request; sent = within; meant = meant; answers = answers; takes = taken.first; same = taken.same }

-- ---- as laws

pub answers_reply : (r : PlainRecording) (h : History) (o : OrderData) (i s t : ℕ) → IsRecording r → Explains r h → order_at r i ≡ Some o → o.maker ≡ Some s
    → SendsAnswer r h o t → HasReplied r h o t
answers_reply r h o i s t limits explains order maker it = record {
  place = it.place;
  bytes = it.bytes;
  reply = replies_there r h it.place i s t o it.bytes it.answer limits explains (order_made r i s o order maker) it.sent it.meant it.answers;
}

pub settling_settles : (r : PlainRecording) (h : History) (o : OrderData) (i s t : ℕ) → IsRecording r → Explains r h → order_at r i ≡ Some o → o.maker ≡ Some s
    → SendsSettling r h o t → HasSettled r h o t
settling_settles r h o i s t limits explains order maker it =
    let sends = it.sends in
    record {
      place = sends.place;
      bytes = sends.bytes;
      reply = replies_there r h sends.place i s t o sends.bytes sends.answer limits explains (order_made r i s o order maker) sends.sent sends.meant sends.answers;
      settles = record { answer = sends.answer; meant = sends.meant; settles = it.settles };
    }

pub settling_heard : (r : PlainRecording) (h : History) (o : OrderData) (i s t : ℕ) → IsRecording r → Explains r h → t < length r.setting.stations
    → order_at r i ≡ Some o → o.maker ≡ Some s → GetsSettling r h o s t → Hears r h o s t
settling_heard r h o i s t limits explains within order maker it =
    let sent = sent_before r h it.before s t it.bytes it.answer limits explains within it.received it.meant it.own in
    let whole : Contains h sent.0 (Send t it.bytes) = contains_on h it.before sent.0 (Send t it.bytes) (Get s it.bytes) it.received sent.1 in
    record {
      before = it.before;
      bytes = it.bytes;
      received = it.received;
      place = sent.0;
      reply = replies_there r h sent.0 i s t o it.bytes it.answer limits explains (order_made r i s o order maker) whole it.meant it.answers;
      settles = record { answer = it.answer; meant = it.meant; settles = it.settles };
    }
