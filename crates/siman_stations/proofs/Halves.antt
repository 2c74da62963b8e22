-- THE STEPS OF A STATION: a datagram comes, an order is made, a repeat is due, a state is told; and its halves are where its log leaves them.
use Rattle.std.proofs.Common.{◌≡◌, ℕ, ◌<◌, ◌^◌, List, [], ◌∷◌, length, refl, ap, sym, ◌∙◌, subst, ◌⊎◌, inl, inr}
use Rattle.std.specs.Prelude.{Bool, true, false, ◌||◌, Option, Some, None, is_some, option_map}
use Rattle.dis_records.specs.declared.entity_state.EntityState.{EntityState}
use Rattle.siman_pdus.specs.declared.pdu.Pdu.{Pdu}
use Rattle.siman_pdus.specs.Ranges.{IsInRange}
use Rattle.siman_pdus.specs.Reading.{reading}
use Rattle.siman_pdus.specs.Role.{is_request_body}
use Rattle.siman_pdus.specs.Spelling.{HasCarriedStatus, pdu_text}
use Rattle.siman_pdus.proofs.Offered.{text_is_read, zero_is_carried, read_in_range}
use Rattle.exercise_model.specs.History.{History, Send, Get, Tell}
use Rattle.siman_application.specs.Distinct.{with_request}
use Rattle.siman_application.specs.AppProfile.{AppProfile}
use Rattle.siman_application.specs.OwnLog.{OwnTurn, Tells, Orders, Passes, Takes, Loses, taken_in, sent_after, AreTurns, IsRead, MissNone, TakesAll}
use Rattle.siman_application.specs.Play.{reply, reply_after, state_over}
use Rattle.siman_application.specs.Ranges.{IsProfileInRange}
use Rattle.siman_application.proofs.Offered.{Each, taken_in_range}
use Rattle.siman_manager.specs.declared.kept.MadeOrder.{MadeOrder}
use Rattle.siman_manager.specs.declared.order.Order.{Order}
use Rattle.siman_manager.specs.declared.settings.Settings.{Settings}
use Rattle.siman_manager.specs.Answers.{taken, refusal_of, with_orders, ticked}
use Rattle.siman_manager.specs.Book.{Book, after_take, after_request, with_order, order_pdu, next_id, refusal, repeated, with_stamp}
use Rattle.siman_manager.specs.Calls.{Call, Requested, Came, Ticked, kept, Life, count_made}
use Rattle.siman_manager.proofs.Offered.{counts}
use Rattle.siman_stations.specs.Sending.{IsOrderInRange}
use Rattle.siman_stations.specs.Orders.{AreFit, IsOfLife, SendOwnOrders, ready_after}
use Rattle.siman_stations.specs.Halves.{received_in, HalvesFollow}
use Rattle.siman_stations.proofs.Orders.{fit_requests, IsOwnRequest, text_is_order, IsOwnOrder, made_own, IsRepeat, repeat_is, repeat_own}
use Rattle.siman_stations.proofs.Requests.{reply_answering, reply_own, reply_read, of_life_on, kept_on, made_life, repeated_life, sent_kept, answer_kept}
use Rattle.siman_stations.proofs.Repeats.{repeat_told}

-- Turns.

-- where no reply is missing, it does not matter what is due later
pub any_later : (a : AppProfile) (one other : Bool) (ts : List OwnTurn) → MissNone ts → AreTurns a one ts → AreTurns a other ts
any_later a one other [] none are = tt
any_later a one other (Tells e y ∷ ts) none are = any_later a one other ts none are
any_later a one other (Orders b p ∷ ts) none are = (are.0, any_later a one other ts none are.1)
any_later a one other (Passes b ∷ ts) none are = any_later a one other ts none are
any_later a one other (Takes b q stamp ∷ ts) none are = (are.0, are.1, any_later a (one || _) (other || _) ts none are.2)
any_later a one other (Loses b q stamp ∷ ts) none are = absurd none

reply_kept : (st : Settings) (calls : List Call) (a : AppProfile) (s : ℕ) (qs : List Pdu) (log : History) (b : List ℕ) (q : Pdu) (stamp : ℕ)
    → IsProfileInRange a → Each IsInRange qs → IsInRange q → stamp < 2 ^ 32 → SendOwnOrders st calls a.exercise log
    → (o : Option Pdu) → reply a qs q stamp ≡ o → SendOwnOrders st calls a.exercise (sent_after s o (Get s b ∷ log))
reply_kept st calls a s qs log b q stamp own came range h kept None e = (tt, kept)
reply_kept st calls a s qs log b q stamp own came range h kept (Some p) e =
    (answer_kept st calls a.exercise p (reply_read p (reply_own a qs q p stamp own came range h e)) (reply_answering a qs q p stamp e), (tt, kept))

-- A DATAGRAM is taken by both halves, and the reply that is due is sent
pub halves_take : {wants : Type 0} (s : ℕ) (a : AppProfile) (ds : List Pdu) (k : Book) (log : History) (closed : Type 0) (b : List ℕ) (q : Pdu) (stamp : ℕ)
    → (is : HalvesFollow wants s a ds k log closed)
    → MissNone is.turns → IsRead b q → stamp < 2 ^ 32
    → HalvesFollow wants s a (with_request a ds q) (taken k q) (sent_after s (reply_after a ds q stamp) (Get s b ∷ log)) closed
halves_take s a ds k log closed b q stamp is none read h = record {
  turns = Takes b q stamp ∷ is.turns;
  calls = Came q ∷ is.calls;
  own_log = record {
    outfit = is.own_log.outfit;
    turns = (read, h, any_later a false _ is.turns none is.own_log.turns);
    log_is = ap (λ (l : History). sent_after s (reply a (taken_in is.turns) q stamp) (Get s b ∷ l)) is.own_log.log_is ∙ same;
    taken_is = refl;
  };
  application = ap (λ (d : List Pdu). with_request a d q) is.application;
  passed = is.passed;
  missing = inl none;
  told = is.told;
  manager = ap (λ (os : List MadeOrder). after_take k.settings q os) is.manager;
  fit = is.fit;
  heard = ap (λ (qs : List Pdu). q ∷ qs) is.heard;
  ordered = subst (SendOwnOrders k.settings (Came q ∷ is.calls) a.exercise) same
      (reply_kept k.settings (Came q ∷ is.calls) a s (taken_in is.turns) log b q stamp is.own_log.outfit
      (taken_in_range a false is.turns is.own_log.turns) (read_in_range b q read.bytes read.read) h
      (kept_on k.settings is.calls (Came q) a.exercise log is.ordered) (reply a (taken_in is.turns) q stamp) refl);
} where
  same : sent_after s (reply a (taken_in is.turns) q stamp) (Get s b ∷ log) ≡ sent_after s (reply_after a ds q stamp) (Get s b ∷ log)
  same = ap (λ (d : List Pdu). sent_after s (reply_after a d q stamp) (Get s b ∷ log)) (sym is.application)

-- A DATAGRAM is received and not taken: it is read as no PDU, or the station wants for memory
pub halves_pass : {wants : Type 0} (s : ℕ) (a : AppProfile) (ds : List Pdu) (k : Book) (log : History) (closed : Type 0) (b : List ℕ)
    → (reading b ≡ None) ⊎ wants → HalvesFollow wants s a ds k log closed → HalvesFollow wants s a ds k (Get s b ∷ log) closed
halves_pass {wants} s a ds k log closed b why is = record {
  turns = Passes b ∷ is.turns;
  calls = is.calls;
  own_log = record {
    outfit = is.own_log.outfit;
    turns = is.own_log.turns;
    log_is = ap (λ (l : History). Get s b ∷ l) is.own_log.log_is;
    taken_is = refl;
  };
  application = is.application;
  passed = by why is.passed;
  missing = is.missing;
  told = is.told;
  manager = is.manager;
  fit = is.fit;
  heard = is.heard;
  ordered = (tt, is.ordered);
} where
  by : (reading b ≡ None) ⊎ wants → TakesAll is.turns ⊎ wants → ((reading b ≡ None) × TakesAll is.turns) ⊎ wants
  by (inl none) (inl all) = inl (none, all)
  by (inl none) (inr h) = inr h
  by (inr h) all = inr h

-- A DATAGRAM is taken by the application half, and the reply that is due is not written
pub halves_lose : {wants : Type 0} (s : ℕ) (a : AppProfile) (ds : List Pdu) (k : Book) (log : History) (closed shut : Type 0) (b : List ℕ) (q : Pdu) (stamp : ℕ)
    → (is : HalvesFollow wants s a ds k log closed)
    → MissNone is.turns → IsRead b q → stamp < 2 ^ 32 → is_some (reply_after a ds q stamp) ≡ true → shut
    → HalvesFollow wants s a (with_request a ds q) k (Get s b ∷ log) shut
halves_lose s a ds k log closed shut b q stamp is none read h due ends = record {
  turns = Loses b q stamp ∷ is.turns;
  calls = is.calls;
  own_log = record {
    outfit = is.own_log.outfit;
    turns = (
      read,
      h,
      ap (λ (d : List Pdu). is_some (reply_after a d q stamp)) (sym is.application) ∙ due,
      refl,
      any_later a false true is.turns none
          is.own_log.turns,
    );
    log_is = ap (λ (l : History). Get s b ∷ l) is.own_log.log_is;
    taken_is = refl;
  };
  application = ap (λ (d : List Pdu). with_request a d q) is.application;
  passed = is.passed;
  missing = inr ends;
  told = is.told;
  manager = is.manager;
  fit = is.fit;
  heard = is.heard;
  ordered = (tt, is.ordered);
}

-- A STATE is told
pub halves_tell : {wants : Type 0} (s : ℕ) (a : AppProfile) (ds : List Pdu) (k : Book) (log : History) (closed : Type 0) (e : ℕ) (y : EntityState)
    → (is : HalvesFollow wants s a ds k log closed)
    → MissNone is.turns → y ≡ state_over a ds e → HalvesFollow wants s a ds k (Tell s e y ∷ log) closed
halves_tell s a ds k log closed e y is none own = record {
  turns = Tells e y ∷ is.turns;
  calls = is.calls;
  own_log = record {
    outfit = is.own_log.outfit;
    turns = is.own_log.turns;
    log_is = ap (λ (l : History). Tell s e y ∷ l) is.own_log.log_is;
    taken_is = refl;
  };
  application = is.application;
  passed = is.passed;
  missing = inl none;
  told = (own ∙ ap (λ (d : List Pdu). state_over a d e) is.application, none, is.told);
  manager = is.manager;
  fit = is.fit;
  heard = is.heard;
  ordered = (tt, is.ordered);
}

-- Orders.

-- a call that makes no PDU come, after which these orders are kept
pub record Goes (k : Book) (calls : List Call) (call : Call) (new : Book) : Type 0 where
  pub settings : new.settings ≡ k.settings
  pub orders : new.orders ≡ kept k.settings (call ∷ calls)
  pub fit : AreFit (call ∷ calls)
  pub none : received_in (call ∷ calls) ≡ received_in calls

-- nothing is sent
halves_call : {wants : Type 0} (s : ℕ) (a : AppProfile) (ds : List Pdu) (k new : Book) (log : History) (closed : Type 0) (call : Call) → (is : HalvesFollow wants s a ds k log closed)
    → Goes k is.calls call new → HalvesFollow wants s a ds new log closed
halves_call s a ds k new log closed call is goes = record {
  turns = is.turns;
  calls = call ∷ is.calls;
  own_log = is.own_log;
  application = is.application;
  passed = is.passed;
  missing = is.missing;
  told = is.told;
  manager = goes.orders ∙ ap (λ (st : Settings). kept st (call ∷ is.calls)) (sym goes.settings);
  fit = goes.fit;
  heard = goes.none ∙ is.heard;
  ordered = subst (λ (st : Settings). SendOwnOrders st (call ∷ is.calls) a.exercise log) (sym goes.settings)
      (kept_on k.settings is.calls call a.exercise log is.ordered);
}

-- an order is sent
halves_send : {wants : Type 0} (s : ℕ) (a : AppProfile) (ds : List Pdu) (k new : Book) (log : History) (closed : Type 0) (call : Call) (p : Pdu)
    → (is : HalvesFollow wants s a ds k log closed)
    → Goes k is.calls call new → IsOwnRequest a p → HasCarriedStatus p → IsOfLife k.settings (call ∷ is.calls) p → HalvesFollow wants s a ds new (Send s (pdu_text p) ∷ log) closed
halves_send s a ds k new log closed call p is goes order status of = record {
  turns = Orders (pdu_text p) p ∷ is.turns;
  calls = call ∷ is.calls;
  own_log = record {
    outfit = is.own_log.outfit;
    turns = (text_is_order a p order status, is.own_log.turns);
    log_is = ap (λ (l : History). Send s (pdu_text p) ∷ l) is.own_log.log_is;
    taken_is = refl;
  };
  application = is.application;
  passed = is.passed;
  missing = is.missing;
  told = is.told;
  manager = goes.orders ∙ ap (λ (st : Settings). kept st (call ∷ is.calls)) (sym goes.settings);
  fit = goes.fit;
  heard = goes.none ∙ is.heard;
  ordered = subst (λ (st : Settings). SendOwnOrders st (call ∷ is.calls) a.exercise (Send s (pdu_text p) ∷ log)) (sym goes.settings) (
    sent_kept k.settings (call ∷ is.calls) a.exercise p (text_is_read p order.ranges status order.size) of,
    kept_on k.settings is.calls call a.exercise log is.ordered,
  );
}

-- the order that is made next
goes_order : (k : Book) (calls : List Call) (order : Order) (now stamp : ℕ) → stamp < 2 ^ 32 → k.orders ≡ kept k.settings calls → AreFit calls
    → is_request_body order.body ≡ true → refusal_of k order stamp ≡ None → IsOrderInRange order
    → Goes k calls (Requested order now stamp) (with_orders k (with_order k.settings order now stamp k.orders))
goes_order k calls order now stamp fits are fit request none range = record {
  settings = refl;
  orders = ap (λ (os : List MadeOrder). with_order k.settings order now stamp os) are
      ∙ ap (λ r. after_request r k.settings order now stamp (kept k.settings calls))
      (sym (ap (λ (os : List MadeOrder). refusal k.settings (length os) order stamp) (sym are) ∙ none));
  fit = (record { request = request; range = range; stamp_is = fits }, fit);
  none = refl;
}

count_is : (k : Book) (calls : List Call) → k.orders ≡ kept k.settings calls → length k.orders ≡ count_made k.settings calls
count_is k calls are = ap length are ∙ counts k.settings calls

pub halves_order : {wants : Type 0} (s : ℕ) (a : AppProfile) (ds : List Pdu) (k : Book) (log : History) (closed : Type 0) (order : Order) (now stamp : ℕ) → stamp < 2 ^ 32
    → HalvesFollow wants s a ds k log closed
    → k.settings.exercise ≡ a.exercise → k.settings.address ≡ a.station.address
    → is_request_body order.body ≡ true → refusal_of k order stamp ≡ None → IsOrderInRange order
    → HalvesFollow wants s a ds (with_orders k (with_order k.settings order now stamp k.orders))
    (Send s (pdu_text (order_pdu k.settings (next_id k.settings (length k.orders)) order stamp)) ∷ log) closed
halves_order s a ds k log closed order now stamp fits is x at request none range =
    halves_send s a ds k _ log closed (Requested order now stamp) p is (goes_order k is.calls order now stamp fits is.manager is.fit request none range)
    own.order (zero_is_carried p refl) of where
      n : ℕ
      n = length k.orders

      p : Pdu
      p = order_pdu k.settings (next_id k.settings n) order stamp

      own : IsOwnOrder a k.settings p
      own = made_own a k.settings x at is.own_log.outfit n order stamp (record { request = request; range = range; stamp_is = fits }) none

      of : IsOfLife k.settings (Requested order now stamp ∷ is.calls) p
      of = subst (λ (m : ℕ). IsOfLife k.settings (Requested order now stamp ∷ is.calls) (order_pdu k.settings (next_id k.settings m) order
          stamp))
          (sym (count_is k is.calls is.manager))
          (made_life k.settings is.calls order now stamp
          (subst (λ (m : ℕ). refusal k.settings m order stamp ≡ None) (count_is k is.calls is.manager) none))

-- it is made and not written
pub halves_withhold : {wants : Type 0} (s : ℕ) (a : AppProfile) (ds : List Pdu) (k : Book) (log : History) (closed : Type 0) (order : Order) (now stamp : ℕ) → stamp < 2 ^ 32
    → HalvesFollow wants s a ds k log closed
    → is_request_body order.body ≡ true → refusal_of k order stamp ≡ None → IsOrderInRange order
    → HalvesFollow wants s a ds (with_orders k (with_order k.settings order now stamp k.orders)) log closed
halves_withhold s a ds k log closed order now stamp fits is request none range =
    halves_call s a ds k _ log closed (Requested order now stamp) is (goes_order k is.calls order now stamp fits is.manager is.fit request none range)

-- Repeats.

goes_tick : (k : Book) (calls : List Call) (now stamp : ℕ) → k.orders ≡ kept k.settings calls → AreFit calls
    → Goes k calls (Ticked now stamp) (ticked k now stamp)
goes_tick k calls now stamp are fit = record {
  settings = refl;
  orders = ap (λ (os : List MadeOrder). (ticked (record { settings = k.settings; orders = os }) now stamp).orders) are;
  fit = fit;
  none = refl;
}

pub halves_tick : {wants : Type 0} (s : ℕ) (a : AppProfile) (ds : List Pdu) (k : Book) (log : History) (closed : Type 0) (now stamp : ℕ) → HalvesFollow wants s a ds k log closed
    → HalvesFollow wants s a ds (ticked k now stamp) log closed
halves_tick s a ds k log closed now stamp is = halves_call s a ds k _ log closed (Ticked now stamp) is (goes_tick k is.calls now stamp is.manager is.fit)

repeat_by : (st : Settings) (calls : List Call) (now stamp : ℕ) (p : Pdu) → AreFit calls → repeated st now stamp (kept st calls) ≡ Some p
    → option_map (λ (l : Life). with_stamp stamp l.order) (ready_after st calls now) ≡ Some p
repeat_by st calls now stamp p fit e = sym (repeat_told st calls (fit_requests calls fit) now stamp) ∙ e

pub halves_repeat : {wants : Type 0} (s : ℕ) (a : AppProfile) (ds : List Pdu) (k : Book) (log : History) (closed : Type 0) (now stamp : ℕ) → stamp < 2 ^ 32 → (p : Pdu)
    → HalvesFollow wants s a ds k log closed
    → k.settings.exercise ≡ a.exercise → k.settings.address ≡ a.station.address → repeated k.settings now stamp k.orders ≡ Some p
    → HalvesFollow wants s a ds (ticked k now stamp) (Send s (pdu_text p) ∷ log) closed
halves_repeat s a ds k log closed now stamp fits p is x at due =
    halves_send s a ds k _ log closed (Ticked now stamp) p is (goes_tick k is.calls now stamp is.manager is.fit) own.order
    (zero_is_carried p own.status) of where
      told : option_map (λ (l : Life). with_stamp stamp l.order) (ready_after k.settings is.calls now) ≡ Some p
      told = repeat_by k.settings is.calls now stamp p is.fit (ap (λ (os : List MadeOrder). repeated k.settings now stamp os) (sym is.manager) ∙ due)

      repeat : IsRepeat k.settings is.calls stamp p
      repeat = repeat_is k.settings is.calls now stamp p told

      own : IsOwnOrder a k.settings p
      own = repeat_own a k.settings x at is.own_log.outfit is.calls is.fit stamp fits p repeat

      of : IsOfLife k.settings (Ticked now stamp ∷ is.calls) p
      of = of_life_on k.settings is.calls (Ticked now stamp) p (repeated_life k.settings is.calls stamp p repeat)

-- Beginnings, and what no step changes.

-- nothing came, and no order was made
pub halves_begun : {wants : Type 0} (s : ℕ) (a : AppProfile) (k : Book) (closed : Type 0) (ds : List Pdu) → ds ≡ [] → k.orders ≡ [] → IsProfileInRange a
    → HalvesFollow wants s a ds k [] closed
halves_begun s a k closed ds none orders own = record {
  turns = [];
  calls = [];
  own_log = record { outfit = own; turns = tt; log_is = refl; taken_is = refl };
  application = none;
  passed = inl tt;
  missing = inl tt;
  told = tt;
  manager = orders;
  fit = tt;
  heard = refl;
  ordered = tt;
}

-- a recorder that takes no further entry stays so
pub halves_closed : {wants : Type 0} (s : ℕ) (a : AppProfile) (ds : List Pdu) (k : Book) (log : History) (closed shut : Type 0) → (closed → shut)
    → HalvesFollow wants s a ds k log closed → HalvesFollow wants s a ds k log shut
halves_closed s a ds k log closed shut on is = record {
  turns = is.turns;
  calls = is.calls;
  own_log = is.own_log;
  application = is.application;
  passed = is.passed;
  missing = by is.missing;
  told = is.told;
  manager = is.manager;
  fit = is.fit;
  heard = is.heard;
  ordered = is.ordered;
} where
  by : MissNone is.turns ⊎ closed → MissNone is.turns ⊎ shut
  by (inl h) = inl h
  by (inr h) = inr (on h)

pub none_missing : {wants : Type 0} (s : ℕ) (a : AppProfile) (ds : List Pdu) (k : Book) (log : History) (closed : Type 0) → (is : HalvesFollow wants s a ds k log closed)
    → (closed → ⊥) → MissNone is.turns
none_missing s a ds k log closed is takes = by is.missing where
  by : MissNone is.turns ⊎ closed → MissNone is.turns
  by (inl h) = h
  by (inr h) = absurd (takes h)
