-- What a station sends are requests, each of which is an order of its manager half, and answers; and no identifier is used for two orders.
use Rattle.std.proofs.Common.{◌≡◌, ℕ, ◌+◌, ◌<◌, ◌≤◌, ◌^◌, List, [], ◌∷◌, refl, ap, sym, ◌∙◌, subst, arith}
use Rattle.std.specs.Prelude.{Bool, true, false, ◌==◌, ◌&&◌, not, Option, Some, None, IfSome, if◌then◌else◌}
use Rattle.std.specs.Option.{option_map_or}
use Rattle.std.specs.List.{list_any}
use Rattle.std.proofs.lemmas.Bool.{and_parts, eq-eqb, eqb-true, or_from}
use Rattle.dis_records.specs.declared.header.TheConstants.{LARGEST_DATAGRAM}
use Rattle.dis_records.specs.declared.kind.Kind.{Kind}
use Rattle.dis_records.specs.declared.kind.Kind.TheVariants as kinds
use Rattle.siman_pdus.specs.declared.pdu.Body.{Body}
use Rattle.siman_pdus.specs.declared.pdu.Body.TheVariants.{Acknowledge, ActionResponse, DataPdu}
use Rattle.siman_pdus.specs.declared.pdu.Pdu.{Pdu}
use Rattle.siman_pdus.specs.declared.roles.Role.{Role}
use Rattle.siman_pdus.specs.declared.roles.Role.TheVariants as roles
use Rattle.siman_pdus.specs.Answers.{same_id, matches_kind, acknowledges}
use Rattle.siman_pdus.specs.Ranges.{IsInRange}
use Rattle.siman_pdus.specs.Reading.{reading}
use Rattle.siman_pdus.specs.Role.{role_of, is_request_role, is_request_body, request_id_of, is_acknowledge_flag}
use Rattle.siman_pdus.specs.Same.{IsSameOrder, is_same_order}
use Rattle.siman_pdus.specs.Spelling.{HasCarriedStatus, body_kind, pdu_size, pdu_text}
use Rattle.siman_pdus.proofs.Offered.{order_decides, text_is_read, zero_is_carried}
use Rattle.exercise_model.specs.History.{Event, Send, Get, Tell, History}
use Rattle.exercise_model.specs.Meaning.{meaning}
use Rattle.exercise_model.specs.Exchange.{is_answer_role, is_answer_body}
use Rattle.exercise_model.specs.Cause.{is_other_order, sends_other, is_reused}
use Rattle.siman_application.specs.Answer.{answer}
use Rattle.siman_application.specs.AppProfile.{AppProfile}
use Rattle.siman_application.specs.Play.{reply}
use Rattle.siman_application.specs.Ranges.{IsProfileInRange}
use Rattle.siman_application.proofs.Offered.{Each, reply_answers, reply_in_range, reply_is_short, is_answer, read_meant}
use Rattle.siman_manager.specs.declared.fault.OrderFault.{OrderFault}
use Rattle.siman_manager.specs.declared.kept.OrderStanding.TheVariants as standings
use Rattle.siman_manager.specs.declared.order.Order.{Order}
use Rattle.siman_manager.specs.declared.settings.Settings.{Settings}
use Rattle.siman_manager.specs.Book.{order_pdu, next_id, refusal}
use Rattle.siman_manager.specs.Calls.{Call, Requested, AreRequests, Life, life, life_made, count_made}
use Rattle.siman_manager.proofs.Offered.{made_as}
use Rattle.siman_stations.specs.Orders.{IsOfLife, SendsOwnOrder, SendOwnOrders}
use Rattle.siman_stations.proofs.Orders.{life_goes_on, IsRepeat}

-- Answers are no requests.

flag_by : (flag n : ℕ) → (flag == n) ≡ true → is_acknowledge_flag n ≡ true → is_acknowledge_flag flag ≡ true
flag_by flag n e own = subst (λ (m : ℕ). is_acknowledge_flag m ≡ true) (sym (eqb-true flag n e)) own

flag_answers : (flag : ℕ) (kind : Kind) → acknowledges flag kind ≡ true → is_acknowledge_flag flag ≡ true
flag_answers flag kinds.CreateEntity e = flag_by flag 1 e refl
flag_answers flag kinds.RemoveEntity e = flag_by flag 2 e refl
flag_answers flag kinds.StartResume e = flag_by flag 3 e refl
flag_answers flag kinds.StopFreeze e = flag_by flag 4 e refl
flag_answers flag kind e = absurd cc

-- a body that answers a request is that of an answer
pub matched_answers : (body : Body) (kind : Kind) → matches_kind body kind ≡ true → is_answer_body body ≡ true
matched_answers (Acknowledge flag response request) kind e =
    ap (λ (b : Bool). is_answer_role (if b then roles.Answer else roles.Outside)) (flag_answers flag kind e)
matched_answers (ActionResponse request status datums) kind e = refl
matched_answers (DataPdu request datums) kind e = refl
matched_answers body kind e = absurd cc

role_request : (r : Role) → is_request_role r ≡ true → is_answer_role r ≡ false
role_request roles.Request e = refl
role_request r e = absurd cc

pub request_no_answer : (body : Body) → is_request_body body ≡ true → is_answer_body body ≡ false
request_no_answer body e = role_request (role_of body) e

some_of : {X : Type 0} (P : X → Type 0) (o : Option X) (x : X) → o ≡ Some x → IfSome o P → P x
some_of P None x e h = absurd cc
some_of P (Some y) x e h = let same : y ≡ x = cc in subst P same h

-- a reply is an answer
pub reply_answering : (a : AppProfile) (qs : List Pdu) (q p : Pdu) (stamp : ℕ) → reply a qs q stamp ≡ Some p → is_answer_body p.body ≡ true
reply_answering a qs q p stamp e =
    some_of (λ r. is_answer_body r.body ≡ true) (reply a qs q stamp) p e
    (reply_answers (λ r. is_answer_body r.body ≡ true) a qs q stamp
    (λ k d mine. let is = is_answer a k d stamp mine in
    matched_answers _ (body_kind d.body) (and_parts (matches_kind _ (body_kind d.body)) _ is.answers).0))

-- A REPLY of a station: its numbers are in their ranges, its status is one that its version carries, and a datagram holds it.
pub record IsReply (p : Pdu) : Type 0 where
  pub ranges : IsInRange p
  pub status : HasCarriedStatus p
  pub size : pdu_size p ≤ LARGEST_DATAGRAM

pub reply_own : (a : AppProfile) (qs : List Pdu) (q p : Pdu) (stamp : ℕ) → IsProfileInRange a → Each IsInRange qs → IsInRange q → stamp < 2 ^ 32
    → reply a qs q stamp ≡ Some p → IsReply p
reply_own a qs q p stamp own came range h e = record {
  ranges = some_of IsInRange (reply a qs q stamp) p e (reply_in_range a qs q stamp own came range h);
  status = some_of HasCarriedStatus (reply a qs q stamp) p e
      (reply_answers HasCarriedStatus a qs q stamp (λ k d mine. zero_is_carried (answer a k d stamp) (is_answer a k d stamp mine).status));
  size = some_of (λ r. pdu_size r ≤ LARGEST_DATAGRAM) (reply a qs q stamp) p e (reply_is_short a qs q stamp);
}

-- its text is read as it
pub reply_read : (p : Pdu) → IsReply p → reading (pdu_text p) ≡ Some p
reply_read p is = text_is_read p is.ranges is.status is.size

-- Orders.

-- orders stay after one more call
pub of_life_on : (settings : Settings) (past : List Call) (call : Call) (q : Pdu) → IsOfLife settings past q → IsOfLife settings (call ∷ past) q
of_life_on settings past call q is =
    let on = life_goes_on settings past call is.number is.life_is is.there in record {
      number = is.number;
      life_is = on.life_is;
      there = on.there;
      same = subst (λ (p : Pdu). IsSameOrder q p) (sym on.order_is) is.same;
    }

kept_one : (settings : Settings) (past : List Call) (call : Call) (x : ℕ) (v : Event) → SendsOwnOrder settings past x v → SendsOwnOrder settings (call ∷ past) x v
kept_one settings past call x (Send s b) is = λ q e r. of_life_on settings past call q (is q e r)
kept_one settings past call x (Get s b) is = tt
kept_one settings past call x (Tell s e y) is = tt

pub kept_on : (settings : Settings) (past : List Call) (call : Call) (x : ℕ) (log : History) → SendOwnOrders settings past x log
    → SendOwnOrders settings (call ∷ past) x log
kept_on settings past call x [] kept = tt
kept_on settings past call x (v ∷ log) kept = (kept_one settings past call x v kept.0, kept_on settings past call x log kept.1)

-- the order that is made next is that of a life
pub made_life : (settings : Settings) (past : List Call) (order : Order) (now stamp : ℕ)
    → refusal settings (count_made settings past) order stamp ≡ None
    → IsOfLife settings (Requested order now stamp ∷ past) (order_pdu settings (next_id settings (count_made settings past)) order stamp)
made_life settings past order now stamp none =
    let n = count_made settings past in
    let p = order_pdu settings (next_id settings n) order stamp in record {
      number = n;
      life_is = record { order = p; sends = record { at = now; stamp = stamp } ∷ []; standing = standings.Waiting };
      there = ap (λ (r : Option OrderFault). life_made r p now stamp (n == n) (life settings past n)) none
          ∙ ap (λ (b : Bool). life_made None p now stamp b (life settings past n)) (eq-eqb n n refl);
      same = refl;
    }

pub repeated_life : (settings : Settings) (past : List Call) (stamp : ℕ) (p : Pdu) → IsRepeat settings past stamp p → IsOfLife settings past p
repeated_life settings past stamp p is =
    subst (IsOfLife settings past) is.sent_is (record { number = is.number; life_is = is.life_is; there = is.there; same = refl })

-- No identifier is used for two orders.

same_both : (p q l : Pdu) → IsSameOrder p l → IsSameOrder q l → IsSameOrder p q
same_both p q l e f = subst (λ (r : Pdu). p ≡ record r { stamp = p.stamp; status = p.status }) (sym f) e

one_life : (settings : Settings) (past : List Call) (p q : Pdu) → (is : IsOfLife settings past p) → (of : IsOfLife settings past q)
    → is.number ≡ of.number → IsSameOrder p q
one_life settings past p q is of e =
    let two : life settings past is.number ≡ Some of.life_is = ap (life settings past) e ∙ of.there in
    let some : Some is.life_is ≡ Some of.life_is = sym is.there ∙ two in
    let lives : is.life_is ≡ of.life_is = cc in
    same_both p q of.life_is.order (subst (λ (l : Life). IsSameOrder p l.order) lives is.same) of.same

-- the identifier of an order
pub life_id : (settings : Settings) (past : List Call) → AreRequests past → (p : Pdu) (is : IsOfLife settings past p)
    → request_id_of p.body ≡ Some (settings.first_id + is.number)
life_id settings past are p is =
    ap (λ (r : Pdu). request_id_of r.body) is.same ∙ (made_as settings past are is.number is.life_is is.there).id

same_numbers : (first j k : ℕ) (o u : Option ℕ) → o ≡ Some (first + j) → u ≡ Some (first + k) → same_id o u ≡ true → j ≡ k
same_numbers first j k None u e f g = absurd cc
same_numbers first j k (Some m) None e f g = absurd cc
same_numbers first j k (Some m) (Some n) e f g =
    let at : m ≡ first + j = cc in
    let there : n ≡ first + k = cc in
    let same : m ≡ n = eqb-true m n g in omega arith

no_other : (settings : Settings) (past : List Call) → AreRequests past → (p q : Pdu) → IsOfLife settings past p
    → (is_request_body q.body ≡ true → IsOfLife settings past q) → is_other_order p q ≡ false
no_other settings past are p q is of = by (is_request_body q.body) refl (same_id (request_id_of p.body) (request_id_of q.body)) refl where
  by : (b : Bool) → is_request_body q.body ≡ b → (c : Bool) → same_id (request_id_of p.body) (request_id_of q.body) ≡ c
      → (b && (c && not (is_same_order p q))) ≡ false
  by false e c f = refl
  by true e false f = refl
  by true e true f =
      let other = of e in
      let numbers = same_numbers settings.first_id is.number other.number (request_id_of p.body) (request_id_of q.body)
      (life_id settings past are p is)
      (life_id settings past are q other) f in
      ap not ((order_decides p q).1 (one_life settings past p q is other numbers))

none_meant : (settings : Settings) (past : List Call) → AreRequests past → (x : ℕ) (p : Pdu) (b : List ℕ) → IsOfLife settings past p
    → ((q : Pdu) → meaning x b ≡ Some q → is_request_body q.body ≡ true → IsOfLife settings past q)
    → (o : Option Pdu) → meaning x b ≡ o → option_map_or (is_other_order p) o false ≡ false
none_meant settings past are x p b is kept None e = refl
none_meant settings past are x p b is kept (Some q) e = no_other settings past are p q is (kept q e)

sends_none : (settings : Settings) (past : List Call) → AreRequests past → (x : ℕ) (p : Pdu) (v : Event) → IsOfLife settings past p
    → SendsOwnOrder settings past x v → sends_other x p v ≡ false
sends_none settings past are x p (Send s b) is kept = none_meant settings past are x p b is kept (meaning x b) refl
sends_none settings past are x p (Get s b) is kept = refl
sends_none settings past are x p (Tell s e y) is kept = refl

pub not_reused : (settings : Settings) (past : List Call) → AreRequests past → (x : ℕ) (p : Pdu) (log : History) → IsOfLife settings past p
    → SendOwnOrders settings past x log → is_reused x p log ≡ false
unfolding is_reused
not_reused settings past are x p [] is kept = refl
not_reused settings past are x p (v ∷ log) is kept =
    or_from (sends_other x p v) (list_any (sends_other x p) log) (sends_none settings past are x p v is kept.0)
    (not_reused settings past are x p log is kept.1)

-- The log of a station.

-- a text that is sent as an order of the station
pub sent_kept : (settings : Settings) (past : List Call) (x : ℕ) (p : Pdu) → reading (pdu_text p) ≡ Some p → IsOfLife settings past p
    → (q : Pdu) → meaning x (pdu_text p) ≡ Some q → is_request_body q.body ≡ true → IsOfLife settings past q
sent_kept settings past x p read is q e request = subst (IsOfLife settings past) (read_meant x (pdu_text p) p q read e) is

-- a text that is sent as an answer
pub answer_kept : (settings : Settings) (past : List Call) (x : ℕ) (p : Pdu) → reading (pdu_text p) ≡ Some p → is_answer_body p.body ≡ true
    → (q : Pdu) → meaning x (pdu_text p) ≡ Some q → is_request_body q.body ≡ true → IsOfLife settings past q
answer_kept settings past x p read answer q e request =
    let same : p ≡ q = read_meant x (pdu_text p) p q read e in
    let no : is_answer_body q.body ≡ false = request_no_answer q.body request in
    let yes : is_answer_body q.body ≡ true = subst (λ (r : Pdu). is_answer_body r.body ≡ true) same answer in absurd cc
