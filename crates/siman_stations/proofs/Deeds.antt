-- WHAT COMES OF THE INVARIANT OF A STATION: nothing stands against what its log sends or tells, and each request that it sends is an order of its manager half.
use Rattle.std.proofs.Common.{◌≡◌, ℕ, ◌<◌, ◌^◌, List, [], ◌∷◌, refl, ap, sym, ◌∙◌, subst, ◌⊎◌, inl, inr}
use Rattle.std.specs.Prelude.{Bool, true, false, ◌==◌, ◌&&◌, ◌||◌, not, is_none, slice_get, Option, Some, None, option_map}
use Rattle.std.specs.Option.{option_map_or}
use Rattle.std.proofs.lemmas.Bool.{and_from, and_right, eq-eqb}
use Rattle.dis_records.specs.declared.address.SiteApplication.{SiteApplication}
use Rattle.dis_records.specs.declared.entity.EntityId.{EntityId}
use Rattle.dis_records.specs.declared.entity_state.EntityState.{EntityState}
use Rattle.dis_records.specs.declared.entity_state.EntityState.TheVariants as states
use Rattle.siman_pdus.specs.declared.pdu.Pdu.{Pdu}
use Rattle.siman_pdus.specs.Answers.{is_answer_to}
use Rattle.siman_pdus.specs.Ranges.{IsInRange}
use Rattle.siman_pdus.specs.Reading.{reading}
use Rattle.siman_pdus.specs.Role.{is_request_body}
use Rattle.siman_pdus.specs.Spelling.{pdu_text}
use Rattle.siman_pdus.proofs.Offered.{read_in_range}
use Rattle.exercise_model.specs.declared.cause.Cause.TheVariants.{WrongSender, ReusedIdentifier, NoRequest, WrongAnswer, ChangedAnswer, Impossible}
use Rattle.exercise_model.specs.Cause.{first_cause, is_reused, is_changed_answer, is_impossible, send_cause, same_state}
use Rattle.exercise_model.specs.Exchange.{is_answer_body, request_taken_up}
use Rattle.exercise_model.specs.History.{Send, Get, Tell, History}
use Rattle.exercise_model.specs.Meaning.{meaning}
use Rattle.exercise_model.specs.Setting.{is_from}
use Rattle.exercise_model.specs.State.{state_after}
use Rattle.exercise_model.specs.Station.{StationData}
use Rattle.siman_application.specs.AppProfile.{AppProfile}
use Rattle.siman_application.specs.Distinct.{distinct}
use Rattle.siman_application.specs.OwnLog.{OwnTurn, Tells, Orders, Passes, Takes, Loses, taken_in, sent_after, log_in, is_due, AreTurns, MissNone, TakesAll, HasGet, AreOneOrder, AnswersHaveNoCause}
use Rattle.siman_application.specs.Play.{reply, state_over}
use Rattle.siman_application.specs.Ranges.{IsProfileInRange}
use Rattle.siman_application.proofs.Offered.{Each, read_meant, taken_in_range, answers_stand, states_stand}
use Rattle.siman_manager.specs.declared.kept.MadeOrder.{MadeOrder}
use Rattle.siman_manager.specs.declared.settings.Settings.{Settings}
use Rattle.siman_manager.specs.Book.{Book}
use Rattle.siman_manager.specs.Calls.{Call, AreRequests, Life, kept, made_order, manager_id}
use Rattle.siman_manager.proofs.Offered.{agrees, made_as}
use Rattle.siman_stations.specs.Deeds.{DeedsHaveNoCause, IsOrdered, RequestsAreOrdered}
use Rattle.siman_stations.specs.Halves.{TellsOwn, HalvesFollow}
use Rattle.siman_stations.specs.Orders.{AreFit, IsOfLife, SendOwnOrders}
use Rattle.siman_stations.proofs.Orders.{fit_requests}
use Rattle.siman_stations.proofs.Requests.{request_no_answer, reply_answering, reply_own, reply_read, not_reused}
use Rattle.siman_stations.proofs.Halves.{any_later}

-- What a station sends are requests and answers.

abbrev pub AreOurs : ℕ → History → Type 0
AreOurs x [] = Unit {0}
AreOurs x (Send s b ∷ log) = ((p : Pdu) → meaning x b ≡ Some p → (is_request_body p.body ≡ true) ⊎ (is_answer_body p.body ≡ true)) × AreOurs x log
AreOurs x (Get s b ∷ log) = AreOurs x log
AreOurs x (Tell s e y ∷ log) = AreOurs x log

ours_reply : (a : AppProfile) (s : ℕ) (qs : List Pdu) (b : List ℕ) (q : Pdu) (stamp : ℕ) (log : History) → IsProfileInRange a → Each IsInRange qs → IsInRange q
    → stamp < 2 ^ 32 → AreOurs a.exercise log → (o : Option Pdu) → reply a qs q stamp ≡ o → AreOurs a.exercise (sent_after s o (Get s b ∷ log))
ours_reply a s qs b q stamp log own came range h ours None e = ours
ours_reply a s qs b q stamp log own came range h ours (Some p) e = (
  λ r f. inr (subst (λ (x : Pdu). is_answer_body x.body ≡ true)
      (read_meant a.exercise (pdu_text p) p r (reply_read p (reply_own a qs q p stamp own came range h e)) f) (reply_answering a qs q p stamp e)),
  ours,
)

ours_turns : (a : AppProfile) (s : ℕ) (later : Bool) (ts : List OwnTurn) → IsProfileInRange a → AreTurns a later ts → AreOurs a.exercise (log_in a s ts)
ours_turns a s later [] own are = tt
ours_turns a s later (Tells e y ∷ ts) own are = ours_turns a s later ts own are
ours_turns a s later (Orders b p ∷ ts) own are = (
  λ q e. inl (subst (λ (x : Pdu). is_request_body x.body ≡ true) (read_meant a.exercise b p q are.0.read.read e) are.0.request),
  ours_turns a s later ts own are.1,
)
ours_turns a s later (Passes b ∷ ts) own are = ours_turns a s later ts own are
ours_turns a s later (Takes b q stamp ∷ ts) own are =
    ours_reply a s (taken_in ts) b q stamp (log_in a s ts) own (taken_in_range a (later || is_due a ts q stamp) ts are.2)
    (read_in_range b q are.0.bytes are.0.read) are.1
    (ours_turns a s (later || is_due a ts q stamp) ts own are.2) (reply a (taken_in ts) q stamp) refl
ours_turns a s later (Loses b q stamp ∷ ts) own are = ours_turns a s true ts own are.4

-- Requests.

site_same : (st : Settings) (p : Pdu) → p.origin ≡ manager_id st → is_from st.address p ≡ true
site_same st p e =
    and_from (p.origin.site == st.address.site) (p.origin.application == st.address.application)
    (eq-eqb p.origin.site st.address.site (ap (λ (i : EntityId). i.site) e)) (eq-eqb p.origin.application st.address.application (ap (λ (i :
    EntityId). i.application) e))

life_from : (st : Settings) (calls : List Call) → AreRequests calls → (p : Pdu) → IsOfLife st calls p → is_from st.address p ≡ true
life_from st calls are p of =
    site_same st p (ap (λ (r : Pdu). r.origin) of.same ∙ (made_as st calls are of.number of.life_is of.there).origin)

ordered_one : (k : Book) (calls : List Call) → AreFit calls → k.orders ≡ kept k.settings calls → (p : Pdu) → IsOfLife k.settings calls p
    → IsOrdered k p
ordered_one k calls fit orders p of = record {
  from = life_from k.settings calls (fit_requests calls fit) p of;
  order = made_order of.life_is;
  number = of.number;
  there = ap (λ (os : List MadeOrder). slice_get os of.number) orders
      ∙ (agrees k.settings calls (fit_requests calls fit) of.number ∙ ap (λ (o : Option Life). option_map made_order o) of.there);
  same = of.same;
}

ordered_all : (k : Book) (calls : List Call) (x : ℕ) (log : History) → AreFit calls → k.orders ≡ kept k.settings calls
    → SendOwnOrders k.settings calls x log
    → RequestsAreOrdered x k log
ordered_all k calls x [] fit orders all = tt
ordered_all k calls x (Send s b ∷ log) fit orders all =
    (λ p e request. ordered_one k calls fit orders p (all.0 p e request), ordered_all k calls x log fit orders all.1)
ordered_all k calls x (Get s b ∷ log) fit orders all = ordered_all k calls x log fit orders all.1
ordered_all k calls x (Tell s e y ∷ log) fit orders all = ordered_all k calls x log fit orders all.1

-- EACH REQUEST THAT A STATION SENDS is an order of its manager half
pub requests_ordered : {wants : Type 0} (s : ℕ) (a : AppProfile) (ds : List Pdu) (k : Book) (log : History) (closed : Type 0)
    → HalvesFollow wants s a ds k log closed → RequestsAreOrdered a.exercise k log
requests_ordered s a ds k log closed is = ordered_all k is.calls a.exercise log is.fit is.manager is.ordered

-- Told states.

-- what a log gets without its last event
own_get : (a : AppProfile) (s : ℕ) (o : Option Pdu) (b c : List ℕ) (log : History) → HasGet log c → HasGet (sent_after s o (Get s b ∷ log)) c
own_get a s None b c log h = inr h
own_get a s (Some p) b c log h = inr h

clear_tail : (a : AppProfile) (ts : List OwnTurn) (h log : History) → ((c : List ℕ) → HasGet log c → HasGet h c) → TakesAll ts ⊎ AreOneOrder a h
    → TakesAll ts ⊎ AreOneOrder a log
clear_tail a ts h log on (inl all) = inl all
clear_tail a ts h log on (inr one) = inr (λ b c p q gb gc. one b c p q (on b gb) (on c gc))

clear_passed : (a : AppProfile) (b : List ℕ) (ts : List OwnTurn) (h : History) → ((reading b ≡ None) × TakesAll ts) ⊎ AreOneOrder a h → TakesAll ts ⊎ AreOneOrder a h
clear_passed a b ts h (inl all) = inl all.1
clear_passed a b ts h (inr one) = inr one

alike : (y : EntityState) → same_state y y ≡ true
alike states.Absent = refl
alike states.Stopped = refl
alike states.Running = refl

-- no state that the log of these turns tells has a cause against it
abbrev pub ToldStand : ℕ → StationData → History → Type 0
ToldStand x o [] = Unit {0}
ToldStand x o (Send s b ∷ log) = ToldStand x o log
ToldStand x o (Get s b ∷ log) = ToldStand x o log
ToldStand x o (Tell s e y ∷ log) = (same_state y (state_after x o log e) ≡ true) × ToldStand x o log

told_reply : (x : ℕ) (o : StationData) (s : ℕ) (p : Option Pdu) (b : List ℕ) (log : History) → ToldStand x o log
    → ToldStand x o (sent_after s p (Get s b ∷ log))
told_reply x o s None b log h = h
told_reply x o s (Some p) b log h = h

told_turns : (a : AppProfile) (s : ℕ) (h : History) → IsProfileInRange a → (later : Bool) (ts : List OwnTurn) → AreTurns a later ts → TellsOwn a ts
    → TakesAll ts ⊎ AreOneOrder a h → ((c : List ℕ) → HasGet (log_in a s ts) c → HasGet h c) → ToldStand a.exercise a.station (log_in a s ts)
told_turns a s h own later [] are told clear on = tt
told_turns a s h own later (Tells e y ∷ ts) are told clear on = (
  ap (λ (z : EntityState). same_state z (state_after a.exercise a.station (log_in a s ts) e)) (told.0 ∙ sym same) ∙ alike _,
  told_turns a s h own later ts are told.2 clear on,
) where
  same : state_after a.exercise a.station (log_in a s ts) e ≡ state_over a (distinct a (taken_in ts)) e
  same = states_stand a s ts (log_in a s ts) (taken_in ts)
      (record { outfit = own; turns = any_later a later false ts told.1 are; log_is = refl; taken_is = refl })
      (clear_tail a ts h (log_in a s ts) on clear) told.1 e
told_turns a s h own later (Orders b p ∷ ts) are told clear on = told_turns a s h own later ts are.1 told clear on
told_turns a s h own later (Passes b ∷ ts) are told clear on =
    told_turns a s h own later ts are told (clear_passed a b ts h clear) (λ c g. on c (inr g))
told_turns a s h own later (Takes b q stamp ∷ ts) are told clear on =
    let reply_is = reply a (taken_in ts) q stamp in
    told_reply a.exercise a.station s reply_is b (log_in a s ts)
    (told_turns a s h own (later || is_due a ts q stamp) ts are.2 told clear (λ c g. on c (own_get a s reply_is b c (log_in a s ts) g)))
told_turns a s h own later (Loses b q stamp ∷ ts) are told clear on = told_turns a s h own true ts are.4 told clear (λ c g. on c (inr g))

-- Causes.

no_rows : (from reused answer c d e f : Bool) → from ≡ true → reused ≡ false → answer ≡ false
    → first_cause ((not from, WrongSender) ∷ (reused, ReusedIdentifier) ∷ (answer && c, NoRequest) ∷ (answer && d, WrongAnswer)
    ∷ (answer && e, ChangedAnswer) ∷ (answer && f, Impossible) ∷ [])
    ≡ None
no_rows true false false c d e f p q r = refl
no_rows true false true c d e f p q r = absurd cc
no_rows true true answer c d e f p q r = absurd cc
no_rows false reused answer c d e f p q r = absurd cc

-- an order from the station's own address, whose identifier was not used for another
pub order_causes : (x : ℕ) (o : StationData) (log : History) (p : Pdu) → is_from o.address p ≡ true → is_request_body p.body ≡ true
    → is_reused x p log ≡ false → send_cause x o log p ≡ None
unfolding send_cause
order_causes x o log p from request reused =
    no_rows (is_from o.address p) (is_request_body p.body && is_reused x p log) (is_answer_body p.body)
    (is_none (request_taken_up x o.address p log))
    (not (option_map_or (is_answer_to p) (request_taken_up x o.address p log) false)) (is_changed_answer x p log)
    (option_map_or (is_impossible x o log p) (request_taken_up x o.address p log) false)
    from (and_right (is_request_body p.body) (is_reused x p log) reused) (request_no_answer p.body request)

deeds_by : (a : AppProfile) (st : Settings) (calls : List Call) (log : History) → AreFit calls → st.address ≡ a.station.address → AreOurs a.exercise log
    → SendOwnOrders st calls a.exercise log → AnswersHaveNoCause a log → ToldStand a.exercise a.station log → DeedsHaveNoCause a.exercise a.station log
deeds_by a st calls [] fit at ours all answers told = tt
deeds_by a st calls (Send s b ∷ log) fit at ours all answers told =
    (λ p e. by p e (ours.0 p e), deeds_by a st calls log fit at ours.1 all.1 answers.1 told) where
      by : (p : Pdu) → meaning a.exercise b ≡ Some p → (is_request_body p.body ≡ true) ⊎ (is_answer_body p.body ≡ true)
          → send_cause a.exercise a.station log p ≡ None
      by p e (inl request) =
          let of = all.0 p e request in
          let are = fit_requests calls fit in
          order_causes a.exercise a.station log p (subst (λ (d : SiteApplication). is_from d p ≡ true) at (life_from st calls are p of)) request
          (not_reused st calls are a.exercise p log of all.1)
      by p e (inr answer) = answers.0 p e answer
deeds_by a st calls (Get s b ∷ log) fit at ours all answers told = deeds_by a st calls log fit at ours all.1 answers told
deeds_by a st calls (Tell s e y ∷ log) fit at ours all answers told = (told.0, deeds_by a st calls log fit at ours all.1 answers told.1)

-- NOTHING STANDS AGAINST WHAT A STATION SENDS OR TELLS, where it took all that came, or no site and application used one request identifier for two orders
pub deeds_stand : {wants : Type 0} (s : ℕ) (a : AppProfile) (ds : List Pdu) (k : Book) (log : History) (closed : Type 0) → (is : HalvesFollow wants s a ds k log closed)
    → k.settings.address ≡ a.station.address → TakesAll is.turns ⊎ AreOneOrder a log → DeedsHaveNoCause a.exercise a.station log
deeds_stand s a ds k log closed is at clear =
    let own = is.own_log in
    deeds_by a k.settings is.calls log is.fit at
    (subst (AreOurs a.exercise) own.log_is (ours_turns a s false is.turns own.outfit own.turns)) is.ordered
    (answers_stand a s is.turns log (taken_in is.turns) own clear)
    (subst (ToldStand a.exercise a.station) own.log_is (told_turns a s log own.outfit false is.turns own.turns is.told clear (λ c g. subst (λ (h : History). HasGet h c) own.log_is g)))

-- THE STATE BY THE LOG of a station that no reply is missing of is that of its application
pub state_follows : {wants : Type 0} (s : ℕ) (a : AppProfile) (ds : List Pdu) (k : Book) (log : History) (closed : Type 0) → (is : HalvesFollow wants s a ds k log closed)
    → MissNone is.turns → TakesAll is.turns ⊎ AreOneOrder a log → (e : ℕ) → state_after a.exercise a.station log e ≡ state_over a ds e
state_follows s a ds k log closed is none clear e =
    states_stand a s is.turns log (taken_in is.turns) is.own_log clear none e ∙ ap (λ (d : List Pdu). state_over a d e) (sym is.application)
