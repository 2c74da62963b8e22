-- The states after a log of turns, and what an answer in it takes up.
use Rattle.std.proofs.Common.{◌≡◌, ℕ, List, [], ◌∷◌, refl, ap, sym, ◌∙◌, subst}
use Rattle.std.specs.Prelude.{Bool, true, false, ◌==◌, ◌&&◌, ◌||◌, not, Option, Some, None, if◌then◌else◌}
use Rattle.std.specs.Option.{option_or, option_map_or}
use Rattle.std.proofs.lemmas.Bool.{and_from}
use Rattle.dis_records.specs.declared.entity_state.EntityState.{EntityState}
use Rattle.dis_records.specs.Entity.{scope_of}
use Rattle.siman_pdus.specs.declared.pdu.Pdu.{Pdu}
use Rattle.siman_pdus.specs.Answers.{same_id, same_pair, is_answer_to}
use Rattle.siman_pdus.specs.Role.{is_request_body, request_id_of}
use Rattle.siman_pdus.specs.Ranges.{IsInRange}
use Rattle.siman_pdus.specs.Same.{IsSameOrder}
use Rattle.siman_pdus.specs.Spelling.{body_kind, carried, pdu_text}
use Rattle.exercise_model.specs.declared.acknowledge.AcknowledgeKey.{AcknowledgeKey}
use Rattle.exercise_model.specs.declared.state.Change.{Change}
use Rattle.exercise_model.specs.Station.{is_entity}
use Rattle.exercise_model.specs.History.{History, Send, Get}
use Rattle.exercise_model.specs.Meaning.{meaning}
use Rattle.exercise_model.specs.Exchange.{request_taken_up}
use Rattle.exercise_model.specs.Change.{able, responds, key_of, responds_under, same_key, was_acknowledged, is_change}
use Rattle.exercise_model.specs.State.{changed, change_of, state_after}
use Rattle.exercise_model.specs.Answered.{IsFirstAble}
use Rattle.exercise_model.proofs.Offered.{received_keeps, told_keeps, no_change_keeps, others_keep, first_able_changes}
use Rattle.siman_application.specs.AppProfile.{AppProfile}
use Rattle.siman_application.specs.Distinct.{Placed, is_for, is_under_key, first_under, with_request, distinct}
use Rattle.siman_application.specs.Answer.{Knowledge, answer}
use Rattle.siman_application.specs.KeptRequests.{AreFor, AreSpelled}
use Rattle.siman_application.specs.Listed.{IsPossible, after}
use Rattle.siman_application.specs.Play.{play, known, reply, state_over}
use Rattle.siman_application.specs.Ranges.{IsProfileInRange}
use Rattle.siman_application.specs.OwnLog.{OwnTurn, Tells, Orders, Passes, Takes, Loses, taken_in, sent_after, log_in, is_due}
use Rattle.siman_application.proofs.Answered.{for_parts, is_answer, answer_stamped, equal_self}
use Rattle.siman_application.proofs.Played.{key_is, request_id, outside_range, stays_by, states_go_on}
use Rattle.siman_application.proofs.TablesStay.{spelled_more}
use Rattle.siman_application.proofs.Replies.{for_at}
use Rattle.siman_application.proofs.Meanings.{answer_means}
use Rattle.siman_application.proofs.Meant.{IsReplyText, IsTaken, AreMeant}
use Rattle.siman_application.proofs.Turns.{same_key_of, first_same, first_more, first_has, GoesTo, answer_at, Course, Foreign, Fresh, Same, Other, course, AreSettled, TakesUp, up_sent, up_turns, PassedAlike}
use Rattle.siman_application.proofs.Acks.{text_of, goes, responds_stamped, silent_by, ack_get, acked_as, acks_turns}

-- The distinct requests are spelled.

-- each is for the station, and its text means it, where it speaks of entities
pub record AreWhole (a : AppProfile) (ds : List Pdu) : Type 0 where
  pub own : AreFor a ds
  pub spelled : AreSpelled a ds

pub whole_taken : (a : AppProfile) (q : Pdu) (stamp : ℕ) (ds : List Pdu) → IsProfileInRange a → IsInRange q → Course a ds q stamp → AreWhole a ds
    → AreWhole a (with_request a ds q)
whole_taken a q stamp ds station range (Foreign reply_is same out) whole = subst (AreWhole a) (sym same) whole
whole_taken a q stamp ds station range (Same f own first reply_is same) whole = subst (AreWhole a) (sym same) whole
whole_taken a q stamp ds station range (Other f own first reply_is same) whole = subst (AreWhole a) (sym same) whole
whole_taken a q stamp ds station range (Fresh own none reply_is same) whole =
    subst (AreWhole a) (sym same) (record { own = (own, whole.own); spelled = spelled_more a q ds own range station whole.spelled })

pub whole_turns : (a : AppProfile) → IsProfileInRange a → (later : Bool) (ts : List OwnTurn) → AreMeant a later ts → AreWhole a (distinct a (taken_in ts))
whole_turns a station later [] are = record { own = tt; spelled = tt }
whole_turns a station later (Tells e y ∷ ts) are = whole_turns a station later ts are
whole_turns a station later (Orders b o ∷ ts) are = whole_turns a station later ts are.1
whole_turns a station later (Passes b ∷ ts) are = whole_turns a station later ts are
whole_turns a station later (Takes b q stamp ∷ ts) are =
    whole_taken a q stamp (distinct a (taken_in ts)) station are.0.ranges (course a (distinct a (taken_in ts)) q stamp)
    (whole_turns a station (later || is_due a ts q stamp) ts are.2)
whole_turns a station later (Loses b q stamp ∷ ts) are =
    whole_taken a q stamp (distinct a (taken_in ts)) station are.0.ranges (course a (distinct a (taken_in ts)) q stamp) (whole_turns a station true ts are.2)

-- Changes.

pub not_change : (x : ℕ) (p : Pdu) (log : History)
    → (responds able p ≡ true → (k : AcknowledgeKey) → key_of p ≡ Some k → was_acknowledged x able k log ≡ true) → is_change x p log ≡ false
unfolding is_change
not_change x p log acked = by (responds able p) (key_of p) refl refl where
  by : (b : Bool) (o : Option AcknowledgeKey) → responds able p ≡ b → key_of p ≡ o → (b && option_map_or (λ k. not (was_acknowledged x able k log)) o false) ≡ false
  by false o r e = refl
  by true None r e = refl
  by true (Some k) r e = ap not (acked r k e)

pub same_key_self : (k : AcknowledgeKey) → same_key k k ≡ true
same_key_self k =
    and_from (k.flag == k.flag) ((k.request == k.request) && ((k.site == k.site) && ((k.application == k.application) && (k.entity == k.entity))))
    (equal_self k.flag)
    (and_from (k.request == k.request) ((k.site == k.site) && ((k.application == k.application) && (k.entity == k.entity))) (equal_self k.request)
    (and_from (k.site == k.site) ((k.application == k.application) && (k.entity == k.entity)) (equal_self k.site)
    (and_from (k.application == k.application) (k.entity == k.entity) (equal_self k.application) (equal_self k.entity))))

pub responds_itself : (n : ℕ) (k : AcknowledgeKey) (p : Pdu) → responds n p ≡ true → key_of p ≡ Some k → responds_under n k p ≡ true
responds_itself n k p r e =
    ap (λ (b : Bool). b && option_map_or (same_key k) (key_of p) false) r ∙ ap (λ (o : Option AcknowledgeKey). option_map_or (same_key k) o false) e
    ∙ same_key_self k

-- an answer that comes again is no change
pub again_no_change : (a : AppProfile) (s stamp : ℕ) (b : List ℕ) (q : Pdu) (f : Placed) (ts : List OwnTurn) → AreMeant a true ts → is_for a f.request ≡ true
    → first_under q (distinct a (taken_in ts)) ≡ Some f
    → is_change a.exercise (answer_at a f stamp) (Get s b ∷ log_in a s ts) ≡ false
again_no_change a s stamp b q f ts are own first =
    not_change a.exercise (answer_at a f stamp) (Get s b ∷ log_in a s ts)
    (λ r k e. ack_get a.exercise able k s b (log_in a s ts)
    ∙ acks_turns a s ts are f.request (answer_at a f stamp) (goes a (known a f.before) f.request stamp own) able k (key_is (answer_at a f stamp) k e)
    ∙ ap (acked_as a able k) (sym (first_same q f.request (same_key_of q f.request (first_has q (distinct a (taken_in ts)) f first)) (distinct a (taken_in ts)))
    ∙ first)
    ∙ sym (responds_stamped a f stamp able k own) ∙ responds_itself able k (answer_at a f stamp) r e)

-- nothing was acknowledged under the key of an answer to a request that is the first under its key
pub fresh_acks : (a : AppProfile) (s stamp n : ℕ) (b : List ℕ) (q : Pdu) (ts : List OwnTurn) → AreMeant a true ts → is_for a q ≡ true
    → first_under q (distinct a (taken_in ts)) ≡ None
    → (k : AcknowledgeKey) → key_of (answer a (known a (distinct a (taken_in ts))) q stamp) ≡ Some k
    → was_acknowledged a.exercise n k (Get s b ∷ log_in a s ts) ≡ false
fresh_acks a s stamp n b q ts are own none k e =
    let ds = distinct a (taken_in ts) in
    ack_get a.exercise n k s b (log_in a s ts)
    ∙ acks_turns a s ts are q (answer a (known a ds) q stamp) (goes a (known a ds) q stamp own) n k (key_is (answer a (known a ds) q stamp) k e) ∙ ap
    (acked_as a n k) none

-- What an answer takes up.

-- it takes up the same order as the request
pub record TakenAs (a : AppProfile) (p q : Pdu) (log : History) : Type 0 where
  pub request : Pdu
  pub taken : request_taken_up a.exercise a.station.address p log ≡ Some request
  pub same : IsSameOrder request q

pub taken_first : (a : AppProfile) (r p : Pdu) (ts : List OwnTurn) (f : Placed) (log : History) (o : Option Placed) (u : Option Pdu) → o ≡ Some f
    → request_taken_up a.exercise a.station.address p log ≡ u → TakesUp a r ts o u → TakenAs a p f.request log
taken_first a r p ts f log None u e t up = absurd cc
taken_first a r p ts f log (Some g) None e t up = absurd up
taken_first a r p ts f log (Some g) (Some h) e t up =
    let same : g ≡ f = cc in record { request = h; taken = t; same = subst (λ (i : Placed). IsSameOrder h i.request) same up }

pub takes_up : (a : AppProfile) (s stamp : ℕ) (b : List ℕ) (q r p : Pdu) (f : Placed) (ts : List OwnTurn) → IsTaken b q
    → IsReplyText (reply a (taken_in ts) q stamp) → AreMeant a true ts → (is_for a q ≡ true → PassedAlike a q ts) → AreSettled a ts → GoesTo r p
    → first_under r (distinct a (q ∷ taken_in ts)) ≡ Some f → TakenAs a p f.request (Get s b ∷ log_in a s ts)
takes_up a s stamp b q r p f ts read text are alike settled to first =
    taken_first a r p (Takes b q stamp ∷ ts) f (Get s b ∷ log_in a s ts) (first_under r (distinct a (q ∷ taken_in ts)))
    (request_taken_up a.exercise a.station.address p (Get s b ∷ log_in a s ts)) first refl
    (subst (TakesUp a r (Takes b q stamp ∷ ts) (first_under r (distinct a (q ∷ taken_in ts))))
    (up_sent a p s (reply a (taken_in ts) q stamp) (Get s b ∷ log_in a s ts))
    (up_turns a s true (Takes b q stamp ∷ ts) (read, text, are) (alike, settled) r p to))

pub under_itself : (q : Pdu) → is_request_body q.body ≡ true → is_under_key q q ≡ true
under_itself q e =
    let id = request_id q e in
    and_from (same_pair q.origin q.origin) (same_id (request_id_of q.body) (request_id_of q.body))
    (and_from (q.origin.site == q.origin.site) (q.origin.application == q.origin.application) (equal_self q.origin.site) (equal_self q.origin.application))
    (ap (λ (o : Option ℕ). same_id o (request_id_of q.body)) id.1 ∙ ap (same_id (Some id.0)) id.1 ∙ equal_self id.0)

-- what is taken first is the first under its key from then on
pub first_then : (a : AppProfile) (q : Pdu) (ds : List Pdu) → is_for a q ≡ true → first_under q ds ≡ None → with_request a ds q ≡ q ∷ ds
    → first_under q (with_request a ds q) ≡ Some (record { request = q; before = ds })
first_then a q ds own none same =
    ap (first_under q) same ∙ first_more q q ds
    ∙ ap (λ (o : Option Placed). option_or o (if is_under_key q q then Some (record { request = q; before = ds }) else None)) none
    ∙ ap (λ (b : Bool). if b then Some (record { request = q; before = ds }) else None) (under_itself q (for_parts a q own).request)

-- an answer answers the same order, and changes the same
pub answers_same : (p q f : Pdu) → IsSameOrder f q → is_answer_to p q ≡ true → is_answer_to p f ≡ true
answers_same p q f same e = subst (λ (r : Pdu). is_answer_to p r ≡ true) (sym same) e

pub change_same : (p q f : Pdu) → IsSameOrder f q → change_of p f ≡ change_of p q
change_same p q f same = ap (change_of p) same

-- States.

pub fresh_able : (a : AppProfile) (s stamp : ℕ) (b : List ℕ) (q f : Pdu) (ts : List OwnTurn) → AreMeant a true ts → is_for a q ≡ true
    → first_under q (distinct a (taken_in ts)) ≡ None
    → (p : Pdu) → p ≡ answer a (known a (distinct a (taken_in ts))) q stamp → meaning a.exercise (pdu_text p) ≡ Some p → responds able p ≡ true
    → request_taken_up a.exercise a.station.address p (Get s b ∷ log_in a s ts) ≡ Some f → IsSameOrder f q
    → IsFirstAble a.exercise a.station (Get s b ∷ log_in a s ts) (pdu_text p) f p
fresh_able a s stamp b q f ts are own none p is m r taken same =
    let ds = distinct a (taken_in ts) in
    record {
      answer = m;
      is_able = r;
      taken = taken;
      answers = answers_same p q f same (ap (λ (w : Pdu). is_answer_to w q) is ∙ (is_answer a (known a ds) q stamp own).answers);
      fresh = λ k e. fresh_acks a s stamp able b q ts are own none k (ap key_of (sym is) ∙ e);
    }

pub fresh_state_able : (a : AppProfile) (s : ℕ) (c : List ℕ) (q f p : Pdu) (log : History) (ds : List Pdu) → IsFirstAble a.exercise a.station log c f p
    → IsSameOrder f q → IsPossible (change_of p q) (λ e. state_over a ds e)
    → ((e : ℕ) → state_after a.exercise a.station log e ≡ state_over a ds e) → (e : ℕ) (b : Bool) → is_entity e ≡ b
    → state_after a.exercise a.station (Send s c ∷ log) e ≡ changed e (state_over a ds e) (change_of p q)
fresh_state_able a s c q f p log ds first same can rest e true v =
    first_able_changes a.exercise a.station log s c f p first e v ∙ ap (λ (c : Change). changed e (state_after a.exercise a.station log e) c)
    (change_same p q f same)
    ∙ ap (λ (y : EntityState). changed e y (change_of p q)) (rest e)
fresh_state_able a s c q f p log ds first same can rest e false v =
    outside_range a.exercise a (Send s c ∷ log) e v
    ∙ sym (ap (λ (y : EntityState). changed e y (change_of p q)) (sym (rest e) ∙ outside_range a.exercise a log e v)
    ∙ stays_by (body_kind q.body) (scope_of (body_kind q.body) q.target.entity p.origin.entity) e (λ e. state_over a ds e) can.possible v)

-- the state that the answer to a first request leaves
pub fresh_state : (a : AppProfile) (s stamp : ℕ) (b : List ℕ) (q f p : Pdu) (ts : List OwnTurn) → AreMeant a true ts → is_for a q ≡ true
    → first_under q (distinct a (taken_in ts)) ≡ None
    → p ≡ answer a (known a (distinct a (taken_in ts))) q stamp → meaning a.exercise (pdu_text p) ≡ Some p
    → request_taken_up a.exercise a.station.address p (Get s b ∷ log_in a s ts) ≡ Some f → IsSameOrder f q
    → ((e : ℕ) → state_after a.exercise a.station (log_in a s ts) e ≡ state_over a (distinct a (taken_in ts)) e)
    → (e : ℕ)
    → state_after a.exercise a.station (Send s (pdu_text p) ∷ Get s b ∷ log_in a s ts) e ≡ after p q (state_over a (distinct a (taken_in ts))) e
fresh_state a s stamp b q f p ts are own none is m taken same rest e = by (responds able p) refl where
  got : (e : ℕ) → state_after a.exercise a.station (Get s b ∷ log_in a s ts) e ≡ state_over a (distinct a (taken_in ts)) e
  got e = received_keeps a.exercise a.station (log_in a s ts) s b e ∙ rest e

  by : (v : Bool) → responds able p ≡ v → state_after a.exercise a.station (Send s (pdu_text p) ∷ Get s b ∷ log_in a s ts) e
      ≡ (if v then changed e (state_over a (distinct a (taken_in ts)) e) (change_of p q) else state_over a (distinct a (taken_in ts)) e)
  by true r =
      fresh_state_able a s (pdu_text p) q f p (Get s b ∷ log_in a s ts) (distinct a (taken_in ts))
      (fresh_able a s stamp b q f ts are own none p is m r taken same) same
      (subst (λ (w : Pdu). IsPossible (change_of w q) (λ e. state_over a (distinct a (taken_in ts)) e)) (sym is)
      ((is_answer a (known a (distinct a (taken_in ts))) q stamp own).able_can (ap (responds able) (sym is) ∙ r)))
      got e (is_entity e) refl
  by false r = others_keep a.exercise a.station (Get s b ∷ log_in a s ts) s (pdu_text p) p m r e ∙ got e

pub known_text : (a : AppProfile) (qs : List Pdu) (q : Pdu) (stamp : ℕ) (k : Knowledge) (d : Pdu) → is_for a d ≡ true
    → reply a qs q stamp ≡ Some (answer a k d stamp) → IsReplyText (reply a qs q stamp)
    → meaning a.exercise (pdu_text (answer a k d stamp)) ≡ Some (answer a k d stamp)
known_text a qs q stamp k d own is text = answer_means a k d stamp own (text_of (reply a qs q stamp) (answer a k d stamp) is text)

pub states_taken : (a : AppProfile) → IsProfileInRange a → (s stamp : ℕ) (b : List ℕ) (q : Pdu) (ts : List OwnTurn) → IsTaken b q
    → IsReplyText (reply a (taken_in ts) q stamp) → AreMeant a true ts → (is_for a q ≡ true → PassedAlike a q ts) → AreSettled a ts
    → Course a (distinct a (taken_in ts)) q stamp
    → ((e : ℕ) → state_after a.exercise a.station (log_in a s ts) e ≡ state_over a (distinct a (taken_in ts)) e)
    → (e : ℕ)
    → state_after a.exercise a.station (sent_after s (reply a (taken_in ts) q stamp) (Get s b ∷ log_in a s ts)) e ≡ state_over a
    (distinct a (q ∷ taken_in ts)) e
states_taken a station s stamp b q ts read text are alike settled (Foreign reply_is same out) rest e =
    ap (λ (o : Option Pdu). state_after a.exercise a.station (sent_after s o (Get s b ∷ log_in a s ts)) e) reply_is ∙ received_keeps a.exercise a.station
    (log_in a s ts) s b e ∙ rest e
    ∙ sym (ap (λ (ds : List Pdu). state_over a ds e) same)
states_taken a station s stamp b q ts read text are alike settled (Other f own first reply_is same) rest e =
    ap (λ (o : Option Pdu). state_after a.exercise a.station (sent_after s o (Get s b ∷ log_in a s ts)) e) reply_is ∙ received_keeps a.exercise a.station
    (log_in a s ts) s b e ∙ rest e
    ∙ sym (ap (λ (ds : List Pdu). state_over a ds e) same)
states_taken a station s stamp b q ts read text are alike settled (Same f own first reply_is same) rest e =
    let kept = for_at a (taken_in ts) q f first in
    ap (λ (o : Option Pdu). state_after a.exercise a.station (sent_after s o (Get s b ∷ log_in a s ts)) e) reply_is
    ∙ no_change_keeps a.exercise a.station (Get s b ∷ log_in a s ts) s (pdu_text (answer_at a f stamp)) (answer_at a f stamp)
    (known_text a (taken_in ts) q stamp (known a f.before) f.request kept reply_is text) (again_no_change a s stamp b q f ts are kept first) e
    ∙ received_keeps a.exercise a.station (log_in a s ts) s b e ∙ rest e ∙ sym (ap (λ (ds : List Pdu). state_over a ds e) same)
states_taken a station s stamp b q ts read text are alike settled (Fresh own none reply_is same) rest e =
    let ds = distinct a (taken_in ts) in
    let p = answer a (known a ds) q stamp in
    let whole = whole_turns a station true ts are in
    let up = takes_up a s stamp b q q p (record { request = q; before = ds }) ts read text are alike settled (goes a (known a ds) q stamp own)
    (first_then a q ds own none same) in
    ap (λ (o : Option Pdu). state_after a.exercise a.station (sent_after s o (Get s b ∷ log_in a s ts)) e) reply_is
    ∙ fresh_state a s stamp b q up.request p ts are own none refl (known_text a (taken_in ts) q stamp (known a ds) q own reply_is text) up.taken up.same rest e
    ∙ ap (λ (w : Pdu). after w q (state_over a ds) e) (answer_stamped a (known a ds) q stamp 0 (for_parts a q own).request)
    ∙ sym (states_go_on a q ds own whole.own (spelled_more a q ds own read.ranges station whole.spelled) none e)
    ∙ sym (ap (λ (xs : List Pdu). state_over a xs e) same)

pub state_start : (a : AppProfile) (s e : ℕ) → state_after a.exercise a.station (log_in a s []) e ≡ state_over a [] e
unfolding play
state_start a s e = refl

-- THE STATES after a log of turns
pub states_turns : (a : AppProfile) → IsProfileInRange a → (s : ℕ) (ts : List OwnTurn) → AreMeant a true ts → AreSettled a ts → (e : ℕ)
    → state_after a.exercise a.station (log_in a s ts) e ≡ state_over a (distinct a (taken_in ts)) e
states_turns a station s [] are settled e = state_start a s e
states_turns a station s (Tells n y ∷ ts) are settled e =
    told_keeps a.exercise a.station (log_in a s ts) s n y e ∙ states_turns a station s ts are settled e
states_turns a station s (Orders b o ∷ ts) are settled e =
    others_keep a.exercise a.station (log_in a s ts) s b o are.0.means (silent_by o.body able are.0.request) e
    ∙ states_turns a station s ts are.1 settled e
states_turns a station s (Passes b ∷ ts) are settled e =
    received_keeps a.exercise a.station (log_in a s ts) s b e ∙ states_turns a station s ts are settled e
states_turns a station s (Takes b q stamp ∷ ts) are settled e =
    states_taken a station s stamp b q ts are.0 are.1 are.2 settled.0 settled.1 (course a (distinct a (taken_in ts)) q stamp)
    (states_turns a station s ts are.2 settled.1) e
states_turns a station s (Loses b q stamp ∷ ts) are settled e = let clash : true ≡ false = are.1 in absurd cc
