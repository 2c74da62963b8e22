-- What holds of the answer to a request.
use Rattle.std.proofs.Common.{◌≡◌, ℕ, ◌+◌, zero, suc, ◌≤◌, refl, ap, sym, ◌∙◌, subst, arith}
use Rattle.std.specs.Prelude.{Bool, true, false, ◌==◌, ◌&&◌, ◌||◌, not, nat_le, Option, Some, None, if◌then◌else◌}
use Rattle.std.specs.Option.{option_or}
use Rattle.std.proofs.lemmas.Bool.Decides.{nat_tests}
use Rattle.std.proofs.lemmas.Bool.{and_from, and_parts}
use Rattle.dis_records.specs.declared.entity_number.TheConstants.{ANY_NUMBER}
use Rattle.exercise_model.specs.declared.station.TheConstants.{LARGEST_ENTITY}
use Rattle.dis_records.specs.declared.entity_state.EntityState.{EntityState}
use Rattle.dis_records.specs.declared.kind.Kind.{Kind}
use Rattle.dis_records.specs.declared.kind.Kind.TheVariants as kinds
use Rattle.dis_records.specs.declared.entity.Scope.{Scope}
use Rattle.dis_records.specs.declared.entity.Scope.TheVariants.{One, All}
use Rattle.dis_records.specs.Entity.{is_addressed, is_create, is_open, are_fitting, scope_of}
use Rattle.siman_pdus.specs.declared.pdu.Body.{Body}
use Rattle.siman_pdus.specs.declared.pdu.Body.TheVariants.{CreateEntity, RemoveEntity, StartResume, StopFreeze, Acknowledge, ActionRequest, ActionResponse, DataQuery, SetData, DataPdu, EventReport, Comment}
use Rattle.siman_pdus.specs.declared.pdu.Pdu.{Pdu}
use Rattle.siman_pdus.specs.Answers.{same_id, same_pair, matches_kind, is_answer_to}
use Rattle.siman_pdus.specs.DatumLists.{DatumLists}
use Rattle.siman_pdus.specs.declared.roles.Role.TheVariants as roles
use Rattle.siman_pdus.specs.Role.{is_acknowledge_flag, is_request_role, is_request_body, request_id_of}
use Rattle.siman_pdus.specs.Spelling.{body_kind}
use Rattle.exercise_model.specs.Station.{is_entity, is_absent}
use Rattle.exercise_model.specs.Place.{first_below}
use Rattle.exercise_model.specs.Change.{able, unable, responds}
use Rattle.exercise_model.specs.Cause.{is_hopeless}
use Rattle.siman_application.specs.AppProfile.{AppProfile}
use Rattle.siman_application.specs.Distinct.{is_for}
use Rattle.siman_application.specs.Answer.{Knowledge, has_place, is_free, chosen, is_meant, own_number, answer_pdu, plain_answer, created, obeyed, data_answer, held_records, result_of, ids_of, answer_by, answer, with_stamp}
use Rattle.exercise_model.specs.State.{change_of}
use Rattle.siman_application.specs.Listed.{IsPossible}
use Rattle.siman_application.proofs.DataThatFits.{cut_is}

pub equal_self : (n : ℕ) → (n == n) ≡ true
equal_self n = grind (arith, nat_tests)

or_left : (a b : Bool) → a ≡ true → (a || b) ≡ true
or_left true b e = refl
or_left false b e = absurd cc

or_right : (a b : Bool) → b ≡ true → (a || b) ≡ true
or_right true b e = refl
or_right false b e = e

-- what a request that is for the station says of itself
pub record IsFor (a : AppProfile) (q : Pdu) : Type 0 where
  pub exercise : (q.exercise == a.exercise) ≡ true
  pub request : is_request_body q.body ≡ true
  pub addressed : is_addressed q.target a.station.address ≡ true

pub for_parts : (a : AppProfile) (q : Pdu) → is_for a q ≡ true → IsFor a q
for_parts a q e =
    let p = and_parts (q.exercise == a.exercise) (is_request_body q.body && is_addressed q.target a.station.address) e in
    let r = and_parts (is_request_body q.body) (is_addressed q.target a.station.address) p.1 in
    record { exercise = p.0; request = r.0; addressed = r.1 }

-- Numbers.

pub open_fits : (kind : Kind) (n m : ℕ) → is_open kind n ≡ true → are_fitting kind n m ≡ true
open_fits kind n m e = or_left ((n == m) || is_open kind n) (is_open kind m) (or_right (n == m) (is_open kind n) e)

pub same_fits : (kind : Kind) (n : ℕ) → are_fitting kind n n ≡ true
same_fits kind n = or_left ((n == n) || is_open kind n) (is_open kind n) (or_left (n == n) (is_open kind n) (equal_self n))

pub own_fits : (kind : Kind) (n : ℕ) → are_fitting kind n (own_number kind n) ≡ true
own_fits kind n = by (is_open kind n) refl where
  by : (b : Bool) → is_open kind n ≡ b → are_fitting kind n (if b then 0 else n) ≡ true
  by true e = open_fits kind n 0 e
  by false e = same_fits kind n

-- what is chosen is free, there is place for it, and it fits the number asked for
pub record IsChosen (y : ℕ → EntityState) (n m : ℕ) : Type 0 where
  pub place : has_place y ≡ true
  pub free : is_free y m ≡ true
  pub fits : are_fitting kinds.CreateEntity n m ≡ true
  pub scope : scope_of kinds.CreateEntity n m ≡ One m

below_passes : (test : ℕ → Bool) (n m : ℕ) → first_below test n ≡ Some m → test m ≡ true
unfolding first_below
below_passes test zero m e = absurd cc
below_passes test (suc n) m e = by (first_below test n) (below_passes test n m) e where
  here : (b : Bool) → test n ≡ b → (if b then Some n else None) ≡ Some m → test m ≡ true
  here true t f = let same : n ≡ m = cc in subst (λ k. test k ≡ true) same t
  here false t f = absurd cc

  by : (o : Option ℕ) → (o ≡ Some m → test m ≡ true) → option_or o (if test n then Some n else None) ≡ Some m → test m ≡ true
  by (Some k) rest f = rest f
  by None rest f = here (test n) refl f

entity_closed : (n : ℕ) → is_entity n ≡ true → is_open kinds.CreateEntity n ≡ false
entity_closed n e = let p = and_parts (nat_le 1 n) (nat_le n LARGEST_ENTITY) e in closed p.0 p.1 where
  closed : nat_le 1 n ≡ true → nat_le n LARGEST_ENTITY ≡ true → is_open kinds.CreateEntity n ≡ false
  closed low high =
      let l : 1 ≤ n = grind (arith, nat_tests) in
      let h : n ≤ LARGEST_ENTITY = grind (arith, nat_tests) in
      let a : (n == 0) ≡ false = grind (arith, nat_tests) in
      let b : (n == 65535) ≡ false = grind (arith, nat_tests) in
      let c : (n == ANY_NUMBER) ≡ false = grind (arith, nat_tests) in
      rw (a, b, c) refl

some_one : (x : ℕ) (m : ℕ) → ◌≡◌ {A = Option ℕ} (Some x) (Some m) → x ≡ m
some_one x m e = cc

chosen_any : (y : ℕ → EntityState) (n m : ℕ) → has_place y ≡ true → (n == ANY_NUMBER) ≡ true → first_below (is_free y) (LARGEST_ENTITY + 1) ≡ Some m
    → IsChosen y n m
chosen_any y n m place any e =
    let free : is_free y m ≡ true = below_passes (is_free y) (LARGEST_ENTITY + 1) m e in
    let is : n ≡ ANY_NUMBER = grind (arith, nat_tests) in
    let opened : is_open kinds.CreateEntity n ≡ true = ap (is_open kinds.CreateEntity) is in
    record {
      place = place;
      free = free;
      fits = open_fits kinds.CreateEntity n m opened;
      scope = ap (λ (b : Bool). if not b then One n else (if not (is_open kinds.CreateEntity m) then One m else All)) opened
          ∙ ap (λ (b : Bool). if not b then One m else All) (entity_closed m (and_parts (is_entity m) (is_absent (y m)) free).0);
    }

chosen_named : (y : ℕ → EntityState) (n m : ℕ) → has_place y ≡ true → (b : Bool) → is_free y n ≡ b → (if b then Some n else None) ≡ Some m
    → IsChosen y n m
chosen_named y n m place false free e = absurd cc
chosen_named y n m place true free e =
    subst (IsChosen y n) (some_one n m e) (record {
      place = place;
      free = free;
      fits = same_fits kinds.CreateEntity n;
      scope = ap (λ (b : Bool). if not b then One n else (if not (is_open kinds.CreateEntity n) then One n else All))
          (entity_closed n (and_parts (is_entity n) (is_absent (y n)) free).0);
    })

chosen_by : (y : ℕ → EntityState) (n m : ℕ) (b : Bool) → has_place y ≡ b → (c : Bool) → (n == ANY_NUMBER) ≡ c
    → (if b then (if c then first_below (is_free y) (LARGEST_ENTITY + 1) else (if is_free y n then Some n else None)) else None) ≡ Some m
    → IsChosen y n m
chosen_by y n m false place c any e = absurd cc
chosen_by y n m true place true any e = chosen_any y n m place any e
chosen_by y n m true place false any e = chosen_named y n m place (is_free y n) refl e

pub is_chosen : (y : ℕ → EntityState) (n m : ℕ) → chosen y n ≡ Some m → IsChosen y n m
is_chosen y n m e = chosen_by y n m (has_place y) refl (n == ANY_NUMBER) refl e

-- It answers the request.

pub answers_it : (a : AppProfile) (q : Pdu) (stamp m : ℕ) (body : Body) → IsFor a q → matches_kind body (body_kind q.body) ≡ true
    → same_id (request_id_of body) (request_id_of q.body) ≡ true
    → are_fitting (body_kind q.body) q.target.entity m ≡ true → is_answer_to (answer_pdu a q stamp m body) q ≡ true
answers_it a q stamp m body own kind id fits =
    and_from (matches_kind body (body_kind q.body)) (same_id (request_id_of body) (request_id_of q.body) &&
    (same_pair q.origin q.origin && (is_addressed q.target a.station.address && are_fitting (body_kind q.body) q.target.entity m))) kind
    (and_from (same_id (request_id_of body) (request_id_of q.body))
    (same_pair q.origin q.origin && (is_addressed q.target a.station.address && are_fitting (body_kind q.body) q.target.entity m)) id
    (and_from (same_pair q.origin q.origin) (is_addressed q.target a.station.address && are_fitting (body_kind q.body) q.target.entity m)
    (and_from (q.origin.site == q.origin.site) (q.origin.application == q.origin.application) (equal_self q.origin.site) (equal_self q.origin.application))
    (and_from (is_addressed q.target a.station.address) (are_fitting (body_kind q.body) q.target.entity m) own.addressed fits)))

outside_role : (b : Bool) → is_request_role (if b then roles.Answer else roles.Outside) ≡ true → ⊥
outside_role true e = absurd cc
outside_role false e = absurd cc

-- an Acknowledge is no request
pub outside : (flag response request : ℕ) → is_request_body (Acknowledge flag response request) ≡ true → ⊥
outside flag response request e = outside_role (is_acknowledge_flag flag) e

-- What an Able asks for can be done.

not_absent : (b : Bool) → not b ≡ true → b ≡ false
not_absent true e = absurd cc
not_absent false e = refl

meant_by : (kind : Kind) (y : ℕ → EntityState) (n : ℕ) → is_create kind ≡ false → (b : Bool) → is_open kind n ≡ b
    → (b || not (is_absent (y n))) ≡ true
    → is_hopeless kind (if not b then One n else (if not (is_open kind (if b then 0 else n)) then One (if b then 0 else n) else All)) y ≡ false
meant_by kind y n create true o e = create
meant_by kind y n create false o e =
    ap (λ (c : Bool). if c then not (is_entity n && is_absent (y n)) else is_absent (y n)) create ∙ not_absent (is_absent (y n)) e

meant_possible : (kind : Kind) (y : ℕ → EntityState) (n : ℕ) → is_create kind ≡ false → is_meant kind y n ≡ true
    → is_hopeless kind (scope_of kind n (own_number kind n)) y ≡ false
meant_possible kind y n create e = meant_by kind y n create (is_open kind n) refl e

-- The answer.

-- what holds of an answer, given what is known
pub record IsAnswer (a : AppProfile) (y : ℕ → EntityState) (q p : Pdu) : Type 0 where
  pub answers : is_answer_to p q ≡ true
  pub able_can : responds able p ≡ true → IsPossible (change_of p q) y
  pub target : p.target ≡ q.origin
  pub site : p.origin.site ≡ a.station.address.site
  pub application : p.origin.application ≡ a.station.address.application
  pub exercise : p.exercise ≡ a.exercise
  pub id : request_id_of p.body ≡ request_id_of q.body
  pub status : p.status ≡ 0

-- one request, seen by its kind and identifier
record Asks (q : Pdu) (kind : Kind) (request : ℕ) : Type 0 where
  kind_is : body_kind q.body ≡ kind
  id_is : request_id_of q.body ≡ Some request

answer_is : (a : AppProfile) (y : ℕ → EntityState) (q : Pdu) (stamp m : ℕ) (body : Body) (kind : Kind) (request : ℕ) → IsFor a q → Asks q kind request
    → matches_kind body kind ≡ true → request_id_of body ≡ Some request → are_fitting kind q.target.entity m ≡ true
    → (responds able (answer_pdu a q stamp m body) ≡ true → IsPossible (change_of (answer_pdu a q stamp m body) q) y)
    → IsAnswer a y q (answer_pdu a q stamp m body)
answer_is a y q stamp m body kind request own asks matches id fits can = record {
  answers = answers_it a q stamp m body own (ap (matches_kind body) asks.kind_is ∙ matches) same (ap (λ (k : Kind). are_fitting k q.target.entity m) asks.kind_is ∙ fits);
  able_can = can;
  target = refl;
  site = refl;
  application = refl;
  exercise = refl;
  id = id ∙ sym asks.id_is;
  status = refl;
} where
  same : same_id (request_id_of body) (request_id_of q.body) ≡ true
  same = ap (λ (o : Option ℕ). same_id o (request_id_of q.body)) id ∙ ap (same_id (Some request)) asks.id_is ∙ equal_self request

-- the answer from the number of the request
plain_is : (a : AppProfile) (y : ℕ → EntityState) (q : Pdu) (stamp : ℕ) (body : Body) (kind : Kind) (request : ℕ) → IsFor a q → Asks q kind request
    → matches_kind body kind ≡ true → request_id_of body ≡ Some request
    → (responds able (plain_answer a q stamp body) ≡ true → IsPossible (change_of (plain_answer a q stamp body) q) y)
    → IsAnswer a y q (plain_answer a q stamp body)
plain_is a y q stamp body kind request own asks matches id can =
    answer_is a y q stamp (own_number (body_kind q.body) q.target.entity) body kind request own asks matches id
    (ap (λ (k : Kind). are_fitting kind q.target.entity (own_number k q.target.entity)) asks.kind_is ∙ own_fits kind q.target.entity) can

created_is : (a : AppProfile) (y : ℕ → EntityState) (q : Pdu) (stamp request : ℕ) → IsFor a q → Asks q kinds.CreateEntity request
    → (o : Option ℕ) → chosen y q.target.entity ≡ o → IsAnswer a y q (created a q stamp request o)
created_is a y q stamp request own asks None e =
    plain_is a y q stamp (Acknowledge 1 unable request) kinds.CreateEntity request own asks refl refl (λ r. absurd cc)
created_is a y q stamp request own asks (Some m) e =
    let is = is_chosen y q.target.entity m e in
    answer_is a y q stamp m (Acknowledge 1 able request) kinds.CreateEntity request own asks refl refl is.fits
    (λ r. record {
      possible = ap (λ (k : Kind). is_hopeless k (scope_of k q.target.entity m) y) asks.kind_is ∙ ap
          (λ (s : Scope). is_hopeless kinds.CreateEntity s y) is.scope ∙ ap not is.free;
      place = λ c. is.place;
    })

obeyed_by : (a : AppProfile) (y : ℕ → EntityState) (q : Pdu) (stamp flag request : ℕ) (kind : Kind) → IsFor a q → Asks q kind request
    → is_create kind ≡ false → matches_kind (Acknowledge flag unable request) kind ≡ true
    → (b : Bool) → is_meant (body_kind q.body) y q.target.entity ≡ b
    → IsAnswer a y q (plain_answer a q stamp (Acknowledge flag (if b then able else unable) request))
obeyed_by a y q stamp flag request kind own asks create matches false e =
    plain_is a y q stamp (Acknowledge flag unable request) kind request own asks matches refl (λ r. absurd cc)
obeyed_by a y q stamp flag request kind own asks create matches true e =
    plain_is a y q stamp (Acknowledge flag able request) kind request own asks matches refl
    (λ r. record {
      possible = meant_possible (body_kind q.body) y q.target.entity (ap is_create asks.kind_is ∙ create) e;
      place = λ c. let clash : is_create (body_kind q.body) ≡ false = ap is_create asks.kind_is ∙ create in absurd cc;
    })

obeyed_is : (a : AppProfile) (y : ℕ → EntityState) (q : Pdu) (stamp flag request : ℕ) (kind : Kind) → IsFor a q → Asks q kind request
    → is_create kind ≡ false → matches_kind (Acknowledge flag unable request) kind ≡ true
    → IsAnswer a y q (obeyed a y q stamp flag request)
obeyed_is a y q stamp flag request kind own asks create matches =
    obeyed_by a y q stamp flag request kind own asks create matches (is_meant (body_kind q.body) y q.target.entity) refl

asks : (q : Pdu) (body : Body) (request : ℕ) → q.body ≡ body → request_id_of body ≡ Some request → Asks q (body_kind body) request
asks q body request e id = record { kind_is = ap body_kind e; id_is = ap request_id_of e ∙ id }

answer_by_is : (a : AppProfile) (k : Knowledge) (q : Pdu) (stamp : ℕ) (body : Body) → q.body ≡ body → is_request_body body ≡ true → IsFor a q
    → IsAnswer a k.states q (answer_by a k q stamp body)
answer_by_is a k q stamp (CreateEntity request) e r own =
    created_is a k.states q stamp request own (asks q (CreateEntity request) request e refl) (chosen k.states q.target.entity) refl
answer_by_is a k q stamp (RemoveEntity request) e r own =
    obeyed_is a k.states q stamp 2 request kinds.RemoveEntity own (asks q (RemoveEntity request) request e refl) refl refl
answer_by_is a k q stamp (StartResume real sim request) e r own =
    obeyed_is a k.states q stamp 3 request kinds.StartResume own (asks q (StartResume real sim request) request e refl) refl refl
answer_by_is a k q stamp (StopFreeze real reason behaviour request) e r own =
    obeyed_is a k.states q stamp 4 request kinds.StopFreeze own (asks q (StopFreeze real reason behaviour request) request e refl) refl refl
answer_by_is a k q stamp (Acknowledge flag response request) e r own = absurd (outside flag response request r)
answer_by_is a k q stamp (ActionRequest request action datums) e r own =
    plain_is a k.states q stamp (ActionResponse request _ _) kinds.ActionRequest request own
    (asks q (ActionRequest request action datums) request e refl) refl refl (λ r. absurd cc)
answer_by_is a k q stamp (ActionResponse request status datums) e r own = absurd cc
answer_by_is a k q stamp (DataQuery request interval ids) e r own =
    plain_is a k.states q stamp (DataPdu request _) kinds.DataQuery request own (asks q (DataQuery request interval ids) request e refl) refl refl
    (λ r. absurd cc)
answer_by_is a k q stamp (SetData request datums) e r own =
    plain_is a k.states q stamp (DataPdu request _) kinds.SetData request own (asks q (SetData request datums) request e refl) refl refl (λ r. absurd cc)
answer_by_is a k q stamp (DataPdu request datums) e r own = absurd cc
answer_by_is a k q stamp (EventReport event datums) e r own = absurd cc
answer_by_is a k q stamp (Comment datums) e r own = absurd cc

pub is_answer : (a : AppProfile) (k : Knowledge) (q : Pdu) (stamp : ℕ) → is_for a q ≡ true → IsAnswer a k.states q (answer a k q stamp)
is_answer a k q stamp own = let parts = for_parts a q own in answer_by_is a k q stamp q.body refl parts.request parts

-- The timestamp.

created_stamped : (a : AppProfile) (q : Pdu) (s t request : ℕ) (o : Option ℕ) → with_stamp t (created a q s request o) ≡ created a q t request o
created_stamped a q s t request None = refl
created_stamped a q s t request (Some m) = refl

data_stamped : (a : AppProfile) (q : Pdu) (s t request : ℕ) (d : DatumLists) → with_stamp t (data_answer a q s request d) ≡ data_answer a q t request d
data_stamped a q s t request d = ap (with_stamp t) (cut_is a q s request d) ∙ sym (cut_is a q t request d)

stamped_by : (a : AppProfile) (k : Knowledge) (q : Pdu) (s t : ℕ) (body : Body) → is_request_body body ≡ true
    → with_stamp t (answer_by a k q s body) ≡ answer_by a k q t body
stamped_by a k q s t (CreateEntity request) r = created_stamped a q s t request (chosen k.states q.target.entity)
stamped_by a k q s t (RemoveEntity request) r = refl
stamped_by a k q s t (StartResume real sim request) r = refl
stamped_by a k q s t (StopFreeze real reason behaviour request) r = refl
stamped_by a k q s t (Acknowledge flag response request) r = absurd (outside flag response request r)
stamped_by a k q s t (ActionRequest request action datums) r = refl
stamped_by a k q s t (ActionResponse request status datums) r = absurd cc
stamped_by a k q s t (DataQuery request interval ids) r = data_stamped a q s t request (held_records k ids)
stamped_by a k q s t (SetData request datums) r = data_stamped a q s t request (held_records (result_of datums k) (ids_of datums))
stamped_by a k q s t (DataPdu request datums) r = absurd cc
stamped_by a k q s t (EventReport event datums) r = absurd cc
stamped_by a k q s t (Comment datums) r = absurd cc

-- an answer with another timestamp is the answer with that timestamp
pub answer_stamped : (a : AppProfile) (k : Knowledge) (q : Pdu) (s t : ℕ) → is_request_body q.body ≡ true → with_stamp t (answer a k q s) ≡ answer a k q t
answer_stamped a k q s t r = stamped_by a k q s t q.body r

-- an answer has the timestamp that it is given
pub stamp_of : (a : AppProfile) (k : Knowledge) (q : Pdu) (stamp : ℕ) → is_request_body q.body ≡ true → (answer a k q stamp).stamp ≡ stamp
stamp_of a k q stamp r = ap (λ (p : Pdu). p.stamp) (sym (answer_stamped a k q stamp stamp r))
