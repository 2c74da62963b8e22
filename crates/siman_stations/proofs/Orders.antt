-- The orders of a station: as they are made, over every list of calls, and as they are sent once more.
use Rattle.std.proofs.Common.{◌≡◌, ℕ, ◌^◌, ◌<◌, ◌≤◌, List, [], ◌∷◌, refl, ap, sym, ◌∙◌, subst, arith}
use Rattle.std.specs.Prelude.{Bool, true, false, ◌==◌, nat_lt, nat_le, Option, Some, None, option_map, option_and_then, if◌then◌else◌}
use Rattle.std.proofs.lemmas.Bool.{leb-true, ltb-true, eqb-true}
use Rattle.dis_records.specs.declared.header.TheConstants.{LARGEST_DATAGRAM}
use Rattle.siman_pdus.specs.declared.pdu.Body.{Body}
use Rattle.siman_pdus.specs.declared.pdu.Body.TheVariants.{CreateEntity, RemoveEntity, StartResume, StopFreeze, ActionRequest, DataQuery, SetData}
use Rattle.siman_pdus.specs.declared.pdu.Pdu.{Pdu}
use Rattle.siman_pdus.specs.Ranges.{IsBodyInRange, IsInRange}
use Rattle.siman_pdus.specs.Role.{is_request_body}
use Rattle.siman_pdus.specs.Spelling.{HasCarriedStatus, pdu_size, pdu_text}
use Rattle.siman_pdus.proofs.Offered.{text_is_bytes, text_is_read}
use Rattle.dis_records.specs.declared.address.SiteApplication.{SiteApplication}
use Rattle.exercise_model.specs.Place.{first_below}
use Rattle.siman_application.specs.AppProfile.{AppProfile}
use Rattle.siman_application.specs.Ranges.{IsProfileInRange}
use Rattle.siman_application.specs.OwnLog.{IsOrder}
use Rattle.siman_manager.specs.declared.fault.OrderFault.{OrderFault}
use Rattle.siman_manager.specs.declared.fault.OrderFault.TheVariants as faults
use Rattle.siman_manager.specs.declared.kept.OrderStanding.TheVariants as standings
use Rattle.siman_manager.specs.declared.order.Order.{Order}
use Rattle.siman_manager.specs.declared.settings.Settings.{Settings}
use Rattle.siman_manager.specs.Book.{numbered, order_pdu, next_id, refusal, with_stamp}
use Rattle.siman_manager.specs.Calls.{Call, Requested, Came, Ticked, AreRequests, count_made, Life, life, life_made, life_ticked, none_before, passes, is_ready_at, settles_order, with_standing, manager_id}
use Rattle.siman_manager.proofs.Offered.{both_true, came_same, ticked_same, unmade}
use Rattle.siman_stations.specs.StationTurn.{stamp_of}
use Rattle.siman_stations.specs.Sending.{IsOrderInRange}
use Rattle.siman_stations.specs.Orders.{IsFit, AreFit, ready_after}

-- a timestamp has 32 bits
pub stamp_within : (now : ℕ) → stamp_of now < 2 ^ 32
stamp_within now = omega arith

-- Orders as they are made.

-- a request stays one under another identifier
numbered_request : (id : ℕ) (body : Body) → is_request_body body ≡ true → is_request_body (numbered id body) ≡ true
numbered_request id (CreateEntity request) e = refl
numbered_request id (RemoveEntity request) e = refl
numbered_request id (StartResume real sim request) e = refl
numbered_request id (StopFreeze real reason behaviour request) e = refl
numbered_request id (ActionRequest request action datums) e = refl
numbered_request id (DataQuery request interval ids) e = refl
numbered_request id (SetData request datums) e = refl
numbered_request id body e = e

-- and in its ranges under any other that has 32 bits
numbered_in_range : (m n : ℕ) (body : Body) → n < 2 ^ 32 → IsBodyInRange (numbered m body) → IsBodyInRange (numbered n body)
numbered_in_range m n (CreateEntity request) h r = h
numbered_in_range m n (RemoveEntity request) h r = h
numbered_in_range m n (StartResume real sim request) h r = (r.0, r.1, h)
numbered_in_range m n (StopFreeze real reason behaviour request) h r = (r.0, r.1, r.2, h)
numbered_in_range m n (ActionRequest request action datums) h r = (h, r.1, r.2)
numbered_in_range m n (DataQuery request interval ids) h r = (h, r.1, r.2)
numbered_in_range m n (SetData request datums) h r = (h, r.1)
numbered_in_range m n body h r = r

-- the numbers of an order are in their ranges where those of its PDU are
pub order_range : (settings : Settings) (id : ℕ) (order : Order) (stamp : ℕ) → IsInRange (order_pdu settings id order stamp) → IsOrderInRange order
order_range settings id order stamp is = record { target = is.target; body = numbered_in_range id 0 order.body (omega arith) is.body }

-- a request of the exercise, its numbers in their ranges, of at most 8192 bytes
pub record IsOwnRequest (a : AppProfile) (p : Pdu) : Type 0 where
  pub exercise : p.exercise ≡ a.exercise
  pub request : is_request_body p.body ≡ true
  pub ranges : IsInRange p
  pub size : pdu_size p ≤ LARGEST_DATAGRAM

-- its text is an order
pub text_is_order : (a : AppProfile) (p : Pdu) → IsOwnRequest a p → HasCarriedStatus p → IsOrder a (pdu_text p) p
text_is_order a p is status = record {
  exercise = is.exercise;
  request = is.request;
  read = record { bytes = text_is_bytes p is.ranges is.size; read = text_is_read p is.ranges status is.size };
}

-- an order of a station comes from its manager half
pub record IsOwnOrder (a : AppProfile) (st : Settings) (p : Pdu) : Type 0 where
  pub order : IsOwnRequest a p
  pub origin : p.origin ≡ manager_id st
  pub status : p.status ≡ 0

-- the order that is made after n others is one of the station, whose exercise and address its manager half has
pub made_own : (a : AppProfile) (st : Settings) → st.exercise ≡ a.exercise → st.address ≡ a.station.address → IsProfileInRange a → (n : ℕ) (order : Order) (stamp : ℕ)
    → IsFit order stamp → refusal st n order stamp ≡ None → IsOwnOrder a st (order_pdu st (next_id st n) order stamp)
made_own a st x at own n order stamp fit none =
    let within : (nat_lt (next_id st n) (2 ^ 32) ≡ true) × (nat_le (pdu_size (order_pdu st (next_id st n) order stamp)) LARGEST_DATAGRAM ≡ true) =
    both_true _ _ faults.TooLong faults.IdsSpent none in
    record {
      order = record {
        exercise = x;
        request = numbered_request (next_id st n) order.body fit.request;
        ranges = record {
          exercise = subst (λ (m : ℕ). m < 2 ^ 8) (sym x) own.exercise;
          stamp = fit.stamp_is;
          status = omega arith;
          origin = subst (λ (d : SiteApplication). (d.site < 2 ^ 16) × (d.application < 2 ^ 16) × (0 < 2 ^ 16)) (sym at) (own.site, own.application, omega arith);
          target = fit.range.target;
          body = numbered_in_range 0 (next_id st n) order.body (ltb-true (next_id st n) (2 ^ 32) within.0) fit.range.body;
        };
        size = leb-true (pdu_size (order_pdu st (next_id st n) order stamp)) LARGEST_DATAGRAM within.1;
      };
      origin = refl;
      status = refl;
    }

-- Orders over calls.

pub fit_requests : (past : List Call) → AreFit past → AreRequests past
fit_requests [] fit = tt
fit_requests (Requested order now stamp ∷ past) fit = (fit.0.request, fit_requests past fit.1)
fit_requests (Came p ∷ past) fit = fit_requests past fit
fit_requests (Ticked now stamp ∷ past) fit = fit_requests past fit

mapped_as : (P : Pdu → Type 0) (f : Life → Life) → ((l : Life) → (f l).order ≡ l.order) → (o : Option Life)
    → ((l : Life) → o ≡ Some l → P l.order) → (l : Life) → option_map f o ≡ Some l → P l.order
mapped_as P f same None old l e = absurd cc
mapped_as P f same (Some x) old l e = let is : f x ≡ l = cc in subst P (sym (same x) ∙ ap (λ (y : Life). y.order) is) (old x refl)

made_as : (P : Pdu → Type 0) (r : Option OrderFault) (p : Pdu) (now stamp : ℕ) (b : Bool) (o : Option Life) → (r ≡ None → P p)
    → ((l : Life) → o ≡ Some l → P l.order) → (l : Life) → life_made r p now stamp b o ≡ Some l → P l.order
made_as P (Some fault) p now stamp b o new old l e = old l e
made_as P None p now stamp false o new old l e = old l e
made_as P None p now stamp true o new old l e = subst P (first _ e) (new refl) where
  first : (x : Life) → Some x ≡ Some l → x.order ≡ l.order
  first x same = let is : x ≡ l = cc in ap (λ (y : Life). y.order) is

-- what holds of each order as it is made holds of the order of each life
pub lives_as : (P : Pdu → Type 0) (s : Settings)
    → ((n : ℕ) (order : Order) (stamp : ℕ) → IsFit order stamp → refusal s n order stamp ≡ None → P (order_pdu s (next_id s n) order stamp))
    → (past : List Call) → AreFit past → (k : ℕ) (l : Life) → life s past k ≡ Some l → P l.order
lives_as P s each [] fit k l e = absurd cc
lives_as P s each (Requested order now stamp ∷ past) fit k l e =
    made_as P (refusal s (count_made s past) order stamp) (order_pdu s (next_id s (count_made s past)) order stamp) now stamp
    (k == count_made s past)
    (life s past k) (each (count_made s past) order stamp fit.0) (lives_as P s each past fit.1 k) l e
lives_as P s each (Came p ∷ past) fit k l e =
    mapped_as P (λ l. if settles_order s l.order p then with_standing standings.Answered l else l) (λ l. came_same (settles_order s l.order p) l)
    (life s past k) (lives_as P s each past fit k) l e
lives_as P s each (Ticked now stamp ∷ past) fit k l e =
    mapped_as P (λ l. if none_before (λ j. passes (is_ready_at s now) (life s past j)) k then life_ticked s now stamp l else l)
    (ticked_same s now stamp (none_before (λ j. passes (is_ready_at s now) (life s past j)) k)) (life s past k) (lives_as P s each past fit k) l e

-- a life goes on: the k-th order is the same after one more call
pub record GoesOn (s : Settings) (past : List Call) (k : ℕ) (p : Pdu) : Type 0 where
  pub life_is : Life
  pub there : life s past k ≡ Some life_is
  pub order_is : life_is.order ≡ p

mapped_on : (f : Life → Life) → ((l : Life) → (f l).order ≡ l.order) → (o : Option Life) (l : Life) → o ≡ Some l
    → (m : Life) × (option_map f o ≡ Some m) × (m.order ≡ l.order)
mapped_on f same o l e = (f l, ap (option_map f) e, same l)

made_on : (r : Option OrderFault) (p : Pdu) (now stamp : ℕ) (b : Bool) (o : Option Life) (l : Life) → (b ≡ true → o ≡ None) → o ≡ Some l
    → (m : Life) × (life_made r p now stamp b o ≡ Some m) × (m.order ≡ l.order)
made_on (Some fault) p now stamp b o l last e = (l, e, refl)
made_on None p now stamp false o l last e = (l, e, refl)
made_on None p now stamp true o l last e = let none : o ≡ None = last refl in absurd cc

pub life_goes_on : (s : Settings) (past : List Call) (c : Call) (k : ℕ) (l : Life) → life s past k ≡ Some l → GoesOn s (c ∷ past) k l.order
life_goes_on s past (Requested order now stamp) k l e =
    let on = made_on (refusal s (count_made s past) order stamp) (order_pdu s (next_id s (count_made s past)) order stamp) now stamp
    (k == count_made s past)
    (life s past k) l (λ same. let here : k ≡ count_made s past = eqb-true k (count_made s past) same in unmade s past k (omega arith)) e in
    record { life_is = on.0; there = on.1; order_is = on.2 }
life_goes_on s past (Came p) k l e =
    let on = mapped_on (λ l. if settles_order s l.order p then with_standing standings.Answered l else l)
    (λ l. came_same (settles_order s l.order p) l)
    (life s past k) l e in
    record { life_is = on.0; there = on.1; order_is = on.2 }
life_goes_on s past (Ticked now stamp) k l e =
    let on = mapped_on (λ l. if none_before (λ j. passes (is_ready_at s now) (life s past j)) k then life_ticked s now stamp l else l)
    (ticked_same s now stamp (none_before (λ j. passes (is_ready_at s now) (life s past j)) k)) (life s past k) l e in
    record { life_is = on.0; there = on.1; order_is = on.2 }

-- Orders as they are sent once more.

-- a repeat is of a life
pub record IsRepeat (st : Settings) (past : List Call) (stamp : ℕ) (p : Pdu) : Type 0 where
  pub number : ℕ
  pub life_is : Life
  pub there : life st past number ≡ Some life_is
  pub sent_is : with_stamp stamp life_is.order ≡ p

of_life : (st : Settings) (past : List Call) (stamp : ℕ) (p : Pdu) (k : ℕ) (o : Option Life) → life st past k ≡ o
    → option_map (λ (l : Life). with_stamp stamp l.order) o ≡ Some p → IsRepeat st past stamp p
of_life st past stamp p k None there e = absurd cc
of_life st past stamp p k (Some l) there e = record { number = k; life_is = l; there = there; sent_is = cc }

of_place : (st : Settings) (past : List Call) (stamp : ℕ) (p : Pdu) (o : Option ℕ)
    → option_map (λ (l : Life). with_stamp stamp l.order) (option_and_then (life st past) o) ≡ Some p → IsRepeat st past stamp p
of_place st past stamp p None e = absurd cc
of_place st past stamp p (Some k) e = of_life st past stamp p k (life st past k) refl e

pub repeat_is : (st : Settings) (past : List Call) (now stamp : ℕ) (p : Pdu)
    → option_map (λ (l : Life). with_stamp stamp l.order) (ready_after st past now) ≡ Some p → IsRepeat st past stamp p
repeat_is st past now stamp p e = of_place st past stamp p (first_below (λ k. passes (is_ready_at st now) (life st past k)) (count_made st past)) e

-- it is an order with another timestamp
pub repeat_own : (a : AppProfile) (st : Settings) → st.exercise ≡ a.exercise → st.address ≡ a.station.address → IsProfileInRange a → (past : List Call) → AreFit past
    → (stamp : ℕ) → stamp < 2 ^ 32 → (p : Pdu) → IsRepeat st past stamp p → IsOwnOrder a st p
repeat_own a st x at own past fit stamp fits p is =
    let first = lives_as (IsOwnOrder a st) st (made_own a st x at own) past fit is.number is.life_is is.there in
    subst (IsOwnOrder a st) is.sent_is (record {
      order = record {
        exercise = first.order.exercise;
        request = first.order.request;
        ranges = record {
          exercise = first.order.ranges.exercise;
          stamp = fits;
          status = first.order.ranges.status;
          origin = first.order.ranges.origin;
          target = first.order.ranges.target;
          body = first.order.ranges.body;
        };
        size = first.order.size;
      };
      origin = first.origin;
      status = first.status;
    })
