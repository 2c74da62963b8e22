-- WHERE ALL STATIONS OF A RECORDING ARE KEPT, and each datagram that was received was sent before, no identifier stands for two orders: the identifiers of each manager are distinct, and so are the addresses.
use Rattle.std.proofs.Common.{◌≡◌, ⊎_elim, ℕ, ◌+◌, ◌<◌, List, [], ◌∷◌, length, refl, ap, sym, ◌∙◌, subst, ◌⊎◌, inl, inr, arith}
use Rattle.std.specs.Prelude.{true, false, ◌==◌, cond, slice_get, Option, Some, None, option_map}
use Rattle.std.specs.List.{AllByRecursion, list_any}
use Rattle.std.proofs.lemmas.Bool.{and_parts, and_from, eq-eqb, eqb-true, or_cases, or_right}
use Rattle.std.proofs.lemmas.Option.{same_Some}
use Rattle.std.proofs.lemmas.Slice.Eq.{bytes_eq-Decides}
use Rattle.dis_records.specs.declared.address.SiteApplication.{SiteApplication}
use Rattle.siman_pdus.specs.declared.pdu.Pdu.{Pdu}
use Rattle.siman_pdus.specs.Answers.{same_id, same_pair}
use Rattle.siman_pdus.specs.Role.{request_id_of, is_request_body}
use Rattle.siman_pdus.specs.Same.{IsSameOrder}
use Rattle.exercise_model.specs.Cause.{sends, was_sent}
use Rattle.exercise_model.specs.History.{Event, Send, Get, Tell, History, station_of, past, log_at}
use Rattle.exercise_model.specs.Meaning.{meaning}
use Rattle.exercise_model.specs.Recording.{PlainRecording, IsRecording}
use Rattle.exercise_model.specs.Setting.{SettingData, station_in, is_from}
use Rattle.exercise_model.proofs.Offered.{sender_found}
use Rattle.siman_application.specs.AppProfile.{AppProfile}
use Rattle.siman_application.specs.OwnLog.{HasGet, AreOneOrder}
use Rattle.siman_manager.specs.declared.kept.MadeOrder.{MadeOrder}
use Rattle.siman_manager.specs.Book.{Book}
use Rattle.siman_manager.specs.Calls.{Call, Life, life, kept, made_order}
use Rattle.siman_manager.proofs.Offered.{agrees, made_as}
use Rattle.siman_stations.specs.Deeds.{ReceivesSent, IsOrdered, RequestsAreOrdered}
use Rattle.siman_stations.specs.Orders.{AreFit}
use Rattle.siman_stations.proofs.Offered.{fit_requests, log-first}

-- What a log got was sent by a station.

-- the event is one of the history
abbrev pub HasEvent : Event → History → Type 0
HasEvent v [] = ⊥
HasEvent v (u ∷ h) = (u ≡ v) ⊎ HasEvent v h

has_later : (s : ℕ) (v u : Event) (h : History) → HasEvent v (log_at s h) → HasEvent v (log_at s (u ∷ h))
unfolding log_at
has_later s v u h has =
    elim (station_of u == s) as (λ b. HasEvent v (cond b (u ∷ log_at s h) (log_at s h))) [ true ↦ inr has | false ↦ has ]

-- a station whose log sends the datagram
pub record IsSentBy (n : ℕ) (b : List ℕ) (h : History) : Type 0 where
  pub sender : ℕ
  pub within : sender < n
  pub has : HasEvent (Send sender b) (log_at sender h)

sent_first : (n : ℕ) (b : List ℕ) (v : Event) (h : History) → station_of v < n → sends b v ≡ true → IsSentBy n b (v ∷ h)
sent_first n b (Send s c) h within same = record {
  sender = s;
  within = within;
  has = subst (HasEvent (Send s b)) (sym (log-first s (Send s c) h refl)) (inl (ap (λ (d : List ℕ). Send s d) (sym ((bytes_eq-Decides b c).0 same))));
}
sent_first n b (Get s c) h within same = absurd cc
sent_first n b (Tell s e y) h within same = absurd cc

sent_later : (n : ℕ) (b : List ℕ) (v : Event) (h : History) → IsSentBy n b h → IsSentBy n b (v ∷ h)
sent_later n b v h is = record { sender = is.sender; within = is.within; has = has_later is.sender (Send is.sender b) v h is.has }

sent_by : (n : ℕ) (b : List ℕ) (h : History) → AllByRecursion (λ v. station_of v < n) h → was_sent b h ≡ true → IsSentBy n b h
unfolding was_sent
sent_by n b [] within sent = absurd cc
sent_by n b (v ∷ h) within sent =
    ⊎_elim (λ (here : sends b v ≡ true). sent_first n b v h within.0 here)
    (λ (before : list_any (sends b) h ≡ true). sent_later n b v h (sent_by n b h within.1 before)) (or_cases (sends b v) (list_any (sends b) h) sent)

got_by : (s : ℕ) (b : List ℕ) (v : Event) (h : History) → (HasGet (log_at s h) b → HasGet h b) → HasGet (log_at s (v ∷ h)) b → HasGet (v ∷ h) b
unfolding log_at
got_by s b (Send t c) h rest = elim (t == s) as (λ k. HasGet (cond k (Send t c ∷ log_at s h) (log_at s h)) b → HasGet h b) [ true ↦ rest | false ↦ rest ]
got_by s b (Get t c) h rest =
    elim (t == s) as (λ k. HasGet (cond k (Get t c ∷ log_at s h) (log_at s h)) b → (c ≡ b) ⊎ HasGet h b) [
      | true ↦ λ has. ⊎_elim (λ (here : c ≡ b). inl here) (λ (before : HasGet (log_at s h) b). inr (rest before)) has
      | false ↦ λ has. inr (rest has)
    ]
got_by s b (Tell t e y) h rest = elim (t == s) as (λ k. HasGet (cond k (Tell t e y ∷ log_at s h) (log_at s h)) b → HasGet h b) [ true ↦ rest | false ↦ rest ]

-- what a station got, the history got
got_all : (s : ℕ) (b : List ℕ) (h : History) → HasGet (log_at s h) b → HasGet h b
unfolding log_at
got_all s b [] has = has
got_all s b (v ∷ h) has = got_by s b v h (got_all s b h) has

got_sent : (w : SettingData) (b : List ℕ) (p : Pdu) (h : History) → meaning w.exercise b ≡ Some p → HasGet h b → ReceivesSent w h → was_sent b h ≡ true
unfolding was_sent
got_sent w b p [] e has received = absurd has
got_sent w b p (Send s c ∷ h) e has received = or_right (sends b (Send s c)) (list_any (sends b) h) (got_sent w b p h e has received)
got_sent w b p (Get s c ∷ h) e (inl same) received =
    subst (λ (d : List ℕ). was_sent d h ≡ true) same (received.0 p (subst (λ (d : List ℕ). meaning w.exercise d ≡ Some p) (sym same) e))
got_sent w b p (Get s c ∷ h) e (inr has) received = got_sent w b p h e has received.1
got_sent w b p (Tell s n y ∷ h) e has received = got_sent w b p h e has received

-- Orders of one manager.

-- the identifiers of the orders that are kept are distinct: they count from the first on
abbrev pub AreNumbered : Book → Type 0
AreNumbered k = (n : ℕ) (order : MadeOrder) → slice_get k.orders n ≡ Some order → request_id_of order.pdu.body ≡ Some (k.settings.first_id + n)

pub numbered : (k : Book) (calls : List Call) → AreFit calls → k.orders ≡ kept k.settings calls → AreNumbered k
numbered k calls fit orders n order there =
    by (life k.settings calls n) refl
    (sym (agrees k.settings calls (fit_requests calls fit) n) ∙ (ap (λ (os : List MadeOrder). slice_get os n) (sym orders) ∙ there))
  where
    by : (o : Option Life) → life k.settings calls n ≡ o → option_map made_order o ≡ Some order
        → request_id_of order.pdu.body ≡ Some (k.settings.first_id + n)
    by None e is = absurd cc
    by (Some l) e is =
        let same : made_order l ≡ order = same_Some (made_order l) order is in
        subst (λ (x : MadeOrder). request_id_of x.pdu.body ≡ Some (k.settings.first_id + n)) same
        (made_as k.settings calls (fit_requests calls fit) n l e).id

same_numbers : (first j k : ℕ) (o u : Option ℕ) → o ≡ Some (first + j) → u ≡ Some (first + k) → same_id o u ≡ true → j ≡ k
same_numbers first j k None u e f g = absurd cc
same_numbers first j k (Some m) None e f g = absurd cc
same_numbers first j k (Some m) (Some n) e f g =
    let at : m ≡ first + j = cc in
    let there : n ≡ first + k = cc in
    let same : m ≡ n = eqb-true m n g in omega arith

same_both : (p q l : Pdu) → IsSameOrder p l → IsSameOrder q l → IsSameOrder p q
same_both p q l e f = subst (λ (r : Pdu). p ≡ record r { stamp = p.stamp; status = p.status }) (sym f) e

ordered_id : (k : Book) (p : Pdu) → AreNumbered k → (is : IsOrdered k p) → request_id_of p.body ≡ Some (k.settings.first_id + is.number)
ordered_id k p own is = ap (λ (r : Pdu). request_id_of r.body) is.same ∙ own is.number is.order is.there

one_order : (k : Book) (p q : Pdu) → AreNumbered k → IsOrdered k p → IsOrdered k q → same_id (request_id_of q.body) (request_id_of p.body) ≡ true
    → IsSameOrder p q
one_order k p q own is of e =
    let numbers : of.number ≡ is.number = same_numbers k.settings.first_id of.number is.number (request_id_of q.body) (request_id_of p.body)
    (ordered_id k q own of) (ordered_id k p own is) e in
    let orders : of.order ≡ is.order = same_Some of.order is.order (sym of.there ∙ (ap (slice_get k.orders) numbers ∙ is.there)) in
    same_both p q is.order.pdu is.same (subst (λ (o : MadeOrder). IsSameOrder q o.pdu) orders of.same)

-- Of all stations.

-- what is known of a station: its manager's address, that each request that it sent is an order of its manager, and that these have identifiers of their own
pub record OrdersOwn (w : SettingData) (h : History) (s : ℕ) (k : Book) : Type 0 where
  pub address : k.settings.address ≡ (station_in w s).address
  pub ordered : RequestsAreOrdered w.exercise k (log_at s h)
  pub numbered : AreNumbered k

ordered_at : (x s : ℕ) (k : Book) (b : List ℕ) (p : Pdu) (log : History) → meaning x b ≡ Some p → is_request_body p.body ≡ true
    → RequestsAreOrdered x k log → HasEvent (Send s b) log → IsOrdered k p
ordered_at x s k b p [] e request all has = absurd has
ordered_at x s k b p (Send t c ∷ log) e request all (inl same) =
    let bytes : b ≡ c = cc in all.0 p (subst (λ (d : List ℕ). meaning x d ≡ Some p) bytes e) request
ordered_at x s k b p (Send t c ∷ log) e request all (inr has) = ordered_at x s k b p log e request all.1 has
ordered_at x s k b p (Get t c ∷ log) e request all (inl same) = absurd cc
ordered_at x s k b p (Get t c ∷ log) e request all (inr has) = ordered_at x s k b p log e request all has
ordered_at x s k b p (Tell t n y ∷ log) e request all (inl same) = absurd cc
ordered_at x s k b p (Tell t n y ∷ log) e request all (inr has) = ordered_at x s k b p log e request all has

-- a request that was received is an order of a station
pub record IsOrderOf (w : SettingData) (books : ℕ → Book) (p : Pdu) : Type 0 where
  pub sender : ℕ
  pub within : sender < length w.stations
  pub ordered : IsOrdered (books sender) p
  pub from : is_from (station_in w sender).address p ≡ true

order_of : (w : SettingData) (h : History) (books : ℕ → Book) → ((s : ℕ) → s < length w.stations → OrdersOwn w h s (books s))
    → AllByRecursion (λ v. station_of v < length w.stations) h → ReceivesSent w h → (s : ℕ) (b : List ℕ) (p : Pdu) → HasGet (log_at s h) b
    → meaning w.exercise b ≡ Some p → is_request_body p.body ≡ true → IsOrderOf w books p
order_of w h books own within received s b p has e request =
    let at = sent_by (length w.stations) b h within (got_sent w b p h e (got_all s b h has) received) in
    let of = own at.sender at.within in
    let is = ordered_at w.exercise at.sender (books at.sender) b p (log_at at.sender h) e request of.ordered at.has in
    record {
      sender = at.sender;
      within = at.within;
      ordered = is;
      from = subst (λ (d : SiteApplication). is_from d p ≡ true) of.address is.from;
    }

from_pair : (d : SiteApplication) (p q : Pdu) → same_pair q.origin p.origin ≡ true → is_from d p ≡ true → is_from d q ≡ true
from_pair d p q same from =
    let a = and_parts (q.origin.site == p.origin.site) (q.origin.application == p.origin.application) same in
    let c = and_parts (p.origin.site == d.site) (p.origin.application == d.application) from in
    and_from (q.origin.site == d.site) (q.origin.application == d.application)
    (eq-eqb q.origin.site d.site (eqb-true q.origin.site p.origin.site a.0 ∙ eqb-true p.origin.site d.site c.0))
    (eq-eqb q.origin.application d.application (eqb-true q.origin.application p.origin.application a.1 ∙ eqb-true p.origin.application d.application c.1))

-- the senders of two requests under one key are one station
one_sender : (r : PlainRecording) (books : ℕ → Book) → IsRecording r → (p q : Pdu) → (is : IsOrderOf r.setting books p) → (of : IsOrderOf r.setting books q)
    → same_pair q.origin p.origin ≡ true → of.sender ≡ is.sender
one_sender r books limits p q is of same =
    same_Some of.sender is.sender (sym (sender_found r limits q of.sender of.within of.from)
    ∙ sender_found r limits q is.sender is.within (from_pair (station_in r.setting is.sender).address p q same is.from))

-- NO IDENTIFIER STANDS FOR TWO ORDERS
pub are_one : (r : PlainRecording) (books : ℕ → Book) → IsRecording r → ((s : ℕ) → s < length r.setting.stations → OrdersOwn r.setting (past r.entries) s (books s))
    → AllByRecursion (λ v. station_of v < length r.setting.stations) (past r.entries) → ReceivesSent r.setting (past r.entries)
    → (s : ℕ) (a : AppProfile) → a.exercise ≡ r.setting.exercise → AreOneOrder a (log_at s (past r.entries))
are_one r books limits own within received s a exercise b c p q got_p got_q meant_p meant_q request_p request_q key =
    let w = r.setting in
    let h = past r.entries in
    let parts = and_parts (same_pair q.origin p.origin) (same_id (request_id_of q.body) (request_id_of p.body)) key in
    let is = order_of w h books own within received s b p got_p (subst (λ (x : ℕ). meaning x b ≡ Some p) exercise meant_p) request_p in
    let of = order_of w h books own within received s c q got_q (subst (λ (x : ℕ). meaning x c ≡ Some q) exercise meant_q) request_q in
    one_order (books is.sender) p q (own is.sender is.within).numbered is.ordered
    (subst (λ (t : ℕ). IsOrdered (books t) q) (one_sender r books limits p q is of parts.0) of.ordered) parts.1
