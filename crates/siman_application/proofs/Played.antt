-- How the play of an application goes on with one more request.
use Rattle.std.proofs.Common.{◌≡◌, ℕ, List, [], ◌∷◌, refl, ap, sym, ◌∙◌, subst, arith}
use Rattle.std.specs.Prelude.{Bool, true, false, ◌==◌, ◌&&◌, ◌||◌, not, option_and_then, Option, Some, None, if◌then◌else◌}
use Rattle.std.specs.Option.{option_or, option_map_or}
use Rattle.std.proofs.lemmas.Bool.Decides.{nat_tests}
use Rattle.std.proofs.lemmas.Bool.{and_from, and_parts}
use Rattle.dis_records.specs.declared.entity.EntityId.{EntityId}
use Rattle.dis_records.specs.declared.entity.Scope.{Scope}
use Rattle.dis_records.specs.declared.entity.Scope.TheVariants.{One, All}
use Rattle.dis_records.specs.declared.entity_state.EntityState.{EntityState}
use Rattle.dis_records.specs.declared.entity_state.EntityState.TheVariants.{Absent, Stopped}
use Rattle.dis_records.specs.declared.kind.Kind.{Kind}
use Rattle.dis_records.specs.declared.kind.Kind.TheVariants as kinds
use Rattle.dis_records.specs.Entity.{is_addressed, scope_of}
use Rattle.siman_pdus.specs.declared.pdu.Body.{Body}
use Rattle.siman_pdus.specs.declared.pdu.Body.TheVariants.{CreateEntity, RemoveEntity, StartResume, StopFreeze, Acknowledge, ActionRequest, ActionResponse, DataQuery, SetData, DataPdu, EventReport, Comment}
use Rattle.siman_pdus.specs.declared.pdu.Pdu.{Pdu}
use Rattle.siman_pdus.specs.Answers.{same_id, same_pair}
use Rattle.siman_pdus.specs.Role.{is_request_body, request_id_of}
use Rattle.siman_pdus.specs.Spelling.{body_kind, carried, pdu_text}
use Rattle.exercise_model.specs.declared.acknowledge.AcknowledgeKey.{AcknowledgeKey}
use Rattle.exercise_model.specs.declared.state.Change.{Change}
use Rattle.exercise_model.specs.Station.{is_entity, is_absent}
use Rattle.exercise_model.specs.History.{History, Send, Get}
use Rattle.exercise_model.specs.Meaning.{meaning}
use Rattle.exercise_model.specs.Exchange.{is_asked, request_brought, request_taken_up}
use Rattle.exercise_model.specs.Change.{able, key_in, key_of, responds, responds_under, same_key, was_acknowledged}
use Rattle.exercise_model.specs.State.{state_made, scope_has, changed, change_of, entity_state, state_after}
use Rattle.exercise_model.specs.Cause.{is_hopeless}
use Rattle.exercise_model.specs.Answered.{IsFirstAnswer}
use Rattle.exercise_model.proofs.Offered.{received_keeps, able_changes, others_keep}
use Rattle.siman_application.specs.AppProfile.{AppProfile}
use Rattle.siman_application.specs.Distinct.{Placed, is_for, is_under_key, first_under}
use Rattle.siman_application.specs.Answer.{Knowledge, answer_by, answer}
use Rattle.siman_application.specs.Listed.{IsPossible, after}
use Rattle.siman_application.specs.KeptRequests.{AreFor, AreSpelled}
use Rattle.siman_application.specs.Play.{is_for_entities, play, known, state_over}
use Rattle.siman_application.proofs.Answered.{IsFor, IsAnswer, for_parts, is_answer, equal_self, outside}

-- Keys.

pub equal_swaps : (m n : ℕ) → (m == n) ≡ (n == m)
equal_swaps m n = by (n == m) refl where
  by : (b : Bool) → (n == m) ≡ b → (m == n) ≡ b
  by true e = let same : n ≡ m = grind (arith, nat_tests) in grind (arith, nat_tests)
  by false e = grind (arith, nat_tests)

pub pair_swaps : (i j : EntityId) → same_pair i j ≡ same_pair j i
pair_swaps i j =
    ap (λ (b : Bool). b && (i.application == j.application)) (equal_swaps i.site j.site) ∙ ap (λ (b : Bool). (j.site == i.site) && b)
    (equal_swaps i.application j.application)

not_asked : (r s i j : Bool) → (j && i) ≡ false → (r && (s && (i && j))) ≡ false
not_asked false s i j e = refl
not_asked true false i j e = refl
not_asked true true false j e = refl
not_asked true true true true e = e
not_asked true true true false e = refl

-- an answer p to the request q does not take up a request under another key
pub other_not_asked : (a : AppProfile) (q d p : Pdu) → p.target ≡ q.origin → request_id_of p.body ≡ request_id_of q.body → is_under_key q d ≡ false
    → is_asked a.station.address p d ≡ false
other_not_asked a q d p target id other =
    ap (λ (i : EntityId). is_request_body d.body &&
    (is_addressed d.target a.station.address && (same_id (request_id_of p.body) (request_id_of d.body) && same_pair d.origin i))) target
    ∙ ap (λ (o : Option ℕ). is_request_body d.body &&
    (is_addressed d.target a.station.address && (same_id o (request_id_of d.body) && same_pair d.origin q.origin))) id
    ∙ not_asked (is_request_body d.body) (is_addressed d.target a.station.address) (same_id (request_id_of q.body) (request_id_of d.body))
    (same_pair d.origin q.origin)
    (ap (λ (b : Bool). b && same_id (request_id_of q.body) (request_id_of d.body)) (pair_swaps d.origin q.origin) ∙ other)

-- the key of an Acknowledge tells where it goes and under which identifier
pub record IsKeyOf (k : AcknowledgeKey) (p : Pdu) : Type 0 where
  pub site : k.site ≡ p.target.site
  pub application : k.application ≡ p.target.application
  pub request : request_id_of p.body ≡ Some k.request

key_by : (p : Pdu) (body : Body) (k : AcknowledgeKey) → key_in p body ≡ Some k
    → (k.site ≡ p.target.site) × (k.application ≡ p.target.application) × (request_id_of body ≡ Some k.request)
key_by p (Acknowledge flag response request) k e =
    let same : record { flag = flag; request = request; site = p.target.site; application = p.target.application; entity = p.origin.entity } ≡ k = cc in
    (ap (λ (j : AcknowledgeKey). j.site) (sym same), ap (λ (j : AcknowledgeKey). j.application) (sym same), ap (λ (j : AcknowledgeKey). Some j.request) same)
key_by p (CreateEntity request) k e = absurd cc
key_by p (RemoveEntity request) k e = absurd cc
key_by p (StartResume real sim request) k e = absurd cc
key_by p (StopFreeze real reason behaviour request) k e = absurd cc
key_by p (ActionRequest request action datums) k e = absurd cc
key_by p (ActionResponse request status datums) k e = absurd cc
key_by p (DataQuery request interval ids) k e = absurd cc
key_by p (SetData request datums) k e = absurd cc
key_by p (DataPdu request datums) k e = absurd cc
key_by p (EventReport event datums) k e = absurd cc
key_by p (Comment datums) k e = absurd cc

pub key_is : (p : Pdu) (k : AcknowledgeKey) → key_of p ≡ Some k → IsKeyOf k p
key_is p k e = let parts = key_by p p.body k e in record { site = parts.0; application = parts.1; request = parts.2 }

equal_of : (m n : ℕ) → (m == n) ≡ true → m ≡ n
equal_of m n e = grind (arith, nat_tests)

equal_to : (m n : ℕ) → m ≡ n → (m == n) ≡ true
equal_to m n e = grind (arith, nat_tests)

-- Acknowledges under one key answer requests under one key.
pub keys_agree : (q d p r : Pdu) (k j : AcknowledgeKey) → p.target ≡ q.origin → request_id_of p.body ≡ request_id_of q.body → r.target ≡ d.origin
    → request_id_of r.body ≡ request_id_of d.body
    → IsKeyOf k p → IsKeyOf j r → same_key k j ≡ true → is_under_key q d ≡ true
keys_agree q d p r k j pt pi rt ri kp jr e =
    let e1 = and_parts (k.flag == j.flag) ((k.request == j.request) &&
    ((k.site == j.site) && ((k.application == j.application) && (k.entity == j.entity)))) e in
    let e2 = and_parts (k.request == j.request) ((k.site == j.site) && ((k.application == j.application) && (k.entity == j.entity))) e1.1 in
    let e3 = and_parts (k.site == j.site) ((k.application == j.application) && (k.entity == j.entity)) e2.1 in
    let e4 = and_parts (k.application == j.application) (k.entity == j.entity) e3.1 in
    let site : q.origin.site ≡ d.origin.site = sym (kp.site ∙ ap (λ (i : EntityId). i.site) pt) ∙ equal_of k.site j.site e3.0 ∙ jr.site ∙ ap
    (λ (i : EntityId). i.site) rt in
    let application : q.origin.application ≡ d.origin.application = sym (kp.application ∙ ap (λ (i : EntityId). i.application) pt)
    ∙ equal_of k.application j.application e4.0 ∙ jr.application ∙ ap (λ (i : EntityId). i.application) rt in
    let id : same_id (request_id_of q.body) (request_id_of d.body) ≡ true =
    ap (λ (o : Option ℕ). same_id o (request_id_of d.body)) (sym pi ∙ kp.request) ∙ ap (same_id (Some k.request)) (sym ri ∙ jr.request) ∙ e2.0 in
    and_from (same_pair q.origin d.origin) (same_id (request_id_of q.body) (request_id_of d.body))
    (and_from (q.origin.site == d.origin.site) (q.origin.application == d.origin.application) (equal_to q.origin.site d.origin.site site)
    (equal_to q.origin.application d.origin.application application)) id

-- an Acknowledge of another request is not under the key
pub other_key : (q d p r : Pdu) (n : ℕ) (k : AcknowledgeKey) → p.target ≡ q.origin → request_id_of p.body ≡ request_id_of q.body → r.target ≡ d.origin
    → request_id_of r.body ≡ request_id_of d.body
    → IsKeyOf k p → is_under_key q d ≡ false → responds_under n k r ≡ false
other_key q d p r n k pt pi rt ri kp other = under (responds n r) (key_of r) refl where
  at : (j : AcknowledgeKey) → key_of r ≡ Some j → (b : Bool) → same_key k j ≡ b → b ≡ false
  at j e true s = let clash : is_under_key q d ≡ true = keys_agree q d p r k j pt pi rt ri kp (key_is r j e) s in absurd cc
  at j e false s = refl

  under : (b : Bool) (o : Option AcknowledgeKey) → key_of r ≡ o → (b && option_map_or (same_key k) o false) ≡ false
  under false o e = refl
  under true None e = refl
  under true (Some j) e = at j e (same_key k j) refl

-- A request under no key before.

first_none : (q d : Pdu) (ds : List Pdu) → first_under q (d ∷ ds) ≡ None → (first_under q ds ≡ None) × (is_under_key q d ≡ false)
unfolding first_under
first_none q d ds e = by (first_under q ds) (is_under_key q d) e where
  by : (o : Option Placed) (b : Bool) → option_or o (if b then Some (record { request = d; before = ds }) else None) ≡ None → (o ≡ None) × (b ≡ false)
  by None true e = absurd cc
  by None false e = (refl, refl)
  by (Some x) b e = absurd cc

-- one more request in the play, where it speaks of entities, and where not
play_more : (a : AppProfile) (d : Pdu) (ds : List Pdu) (b : Bool) → is_for_entities (body_kind d.body) ≡ b
    → play a (d ∷ ds) ≡ (if b then Send 0 (pdu_text (answer a (known a ds) d 0)) ∷ Get 0 (pdu_text d) ∷ play a ds else play a ds)
unfolding play
play_more a d ds b e = ap (λ (v : Bool). if v then Send 0 (pdu_text (answer a (known a ds) d 0)) ∷ Get 0 (pdu_text d) ∷ play a ds else play a ds) e

taken_get : (x : ℕ) (a : AppProfile) (p d : Pdu) (s t : ℕ) (b c : List ℕ) (log : History) → meaning x b ≡ Some d → is_asked a.station.address p d ≡ false
    → request_taken_up x a.station.address p log ≡ None → request_taken_up x a.station.address p (Send s c ∷ Get t b ∷ log) ≡ None
unfolding request_taken_up
taken_get x a p d s t b c log m other rest =
    ap (λ (o : Option Pdu). option_or (option_or o (request_brought x a.station.address p (Get t b))) None) rest
    ∙ ap (λ (o : Option Pdu). option_or (option_and_then (λ r. if is_asked a.station.address p r then Some r else None) o) None) m
    ∙ ap (λ (v : Bool). option_or (if v then Some d else None) None) other

acked_send : (x n : ℕ) (k : AcknowledgeKey) (r : Pdu) (s t : ℕ) (b c : List ℕ) (log : History) → meaning x c ≡ Some r → responds_under n k r ≡ false
    → was_acknowledged x n k log ≡ false → was_acknowledged x n k (Send s c ∷ Get t b ∷ log) ≡ false
unfolding was_acknowledged
acked_send x n k r s t b c log m other rest =
    ap (λ (o : Option Pdu). option_map_or (responds_under n k) o false || (false || was_acknowledged x n k log)) m
    ∙ ap (λ (v : Bool). v || (false || was_acknowledged x n k log)) other ∙ rest

none_start : (x : ℕ) (a : AppProfile) (p : Pdu) → request_taken_up x a.station.address p (play a []) ≡ None
unfolding play request_taken_up
none_start x a p = refl

acked_start : (x n : ℕ) (a : AppProfile) (k : AcknowledgeKey) → was_acknowledged x n k (play a []) ≡ false
unfolding play was_acknowledged
acked_start x n a k = refl

-- nothing in the play is taken up by the answer to a request under no key before
none_taken : (a : AppProfile) (ds : List Pdu) → AreSpelled a ds → (q p : Pdu) → p.target ≡ q.origin → request_id_of p.body ≡ request_id_of q.body
    → first_under q ds ≡ None
    → request_taken_up a.exercise a.station.address p (play a ds) ≡ None
none_taken a [] spelled q p target id none = none_start a.exercise a p
none_taken a (d ∷ ds) spelled q p target id none =
    by (is_for_entities (body_kind d.body)) refl (none_taken a ds spelled.1 q p target id (first_none q d ds none).0) where
      by : (b : Bool) → is_for_entities (body_kind d.body) ≡ b → request_taken_up a.exercise a.station.address p (play a ds) ≡ None → request_taken_up a.exercise a.station.address p (play a (d ∷ ds)) ≡ None
      by true e rest =
          ap (request_taken_up a.exercise a.station.address p) (play_more a d ds true e)
          ∙ taken_get a.exercise a p (carried d) 0 0 (pdu_text d) (pdu_text (answer a (known a ds) d 0)) (play a ds) (spelled.0 e).0
          (other_not_asked a q d p target id (first_none q d ds none).1) rest
      by false e rest = ap (request_taken_up a.exercise a.station.address p) (play_more a d ds false e) ∙ rest

-- nor is there an Acknowledge under its key
none_acked : (a : AppProfile) (ds : List Pdu) → AreSpelled a ds → AreFor a ds → (q p : Pdu) (n : ℕ) (k : AcknowledgeKey) → p.target ≡ q.origin
    → request_id_of p.body ≡ request_id_of q.body → IsKeyOf k p → first_under q ds ≡ None
    → was_acknowledged a.exercise n k (play a ds) ≡ false
none_acked a [] spelled are q p n k target id key none = acked_start a.exercise n a k
none_acked a (d ∷ ds) spelled are q p n k target id key none =
    by (is_for_entities (body_kind d.body)) refl (none_acked a ds spelled.1 are.1 q p n k target id key (first_none q d ds none).0) where
      by : (b : Bool) → is_for_entities (body_kind d.body) ≡ b → was_acknowledged a.exercise n k (play a ds) ≡ false → was_acknowledged a.exercise n k (play a (d ∷ ds)) ≡ false
      by true e rest =
          let r = answer a (known a ds) d 0 in
          let is = is_answer a (known a ds) d 0 are.0 in
          ap (was_acknowledged a.exercise n k) (play_more a d ds true e)
          ∙ acked_send a.exercise n k r 0 0 (pdu_text d) (pdu_text r) (play a ds) (spelled.0 e).1
          (other_key q d p r n k target id is.target is.id key (first_none q d ds none).1) rest
      by false e rest = ap (was_acknowledged a.exercise n k) (play_more a d ds false e) ∙ rest

-- The states after one more request.

pub is_asked_by : (a : AppProfile) (y : ℕ → EntityState) (q p : Pdu) (request : ℕ) → IsFor a q → IsAnswer a y q p → request_id_of q.body ≡ Some request
    → is_asked a.station.address p q ≡ true
is_asked_by a y q p request own is id =
    and_from (is_request_body q.body) (is_addressed q.target a.station.address &&
    (same_id (request_id_of p.body) (request_id_of q.body) && same_pair q.origin p.target)) own.request
    (and_from (is_addressed q.target a.station.address) (same_id (request_id_of p.body) (request_id_of q.body) && same_pair q.origin p.target) own.addressed
    (and_from (same_id (request_id_of p.body) (request_id_of q.body)) (same_pair q.origin p.target)
    (ap (λ (o : Option ℕ). same_id o (request_id_of q.body)) (is.id ∙ id) ∙ ap (same_id (Some request)) id ∙ equal_self request)
    (ap (same_pair q.origin) is.target ∙ and_from (q.origin.site == q.origin.site) (q.origin.application == q.origin.application) (equal_self q.origin.site)
    (equal_self q.origin.application))))

-- each request has an identifier
request_id_by : (body : Body) → is_request_body body ≡ true → (n : ℕ) × (request_id_of body ≡ Some n)
request_id_by (CreateEntity request) e = (request, refl)
request_id_by (RemoveEntity request) e = (request, refl)
request_id_by (StartResume real sim request) e = (request, refl)
request_id_by (StopFreeze real reason behaviour request) e = (request, refl)
request_id_by (Acknowledge flag response request) e = (request, refl)
request_id_by (ActionRequest request action datums) e = (request, refl)
request_id_by (ActionResponse request status datums) e = (request, refl)
request_id_by (DataQuery request interval ids) e = (request, refl)
request_id_by (SetData request datums) e = (request, refl)
request_id_by (DataPdu request datums) e = (request, refl)
request_id_by (EventReport event datums) e = absurd cc
request_id_by (Comment datums) e = absurd cc

pub request_id : (q : Pdu) → is_request_body q.body ≡ true → (n : ℕ) × (request_id_of q.body ≡ Some n)
request_id q e = request_id_by q.body e

-- only what speaks of entities is answered by an Able
unable_by : (a : AppProfile) (k : Knowledge) (q : Pdu) (stamp : ℕ) (body : Body) → is_request_body body ≡ true → is_for_entities (body_kind body) ≡ false
    → responds able (answer_by a k q stamp body) ≡ false
unable_by a k q stamp (CreateEntity request) r e = absurd cc
unable_by a k q stamp (RemoveEntity request) r e = absurd cc
unable_by a k q stamp (StartResume real sim request) r e = absurd cc
unable_by a k q stamp (StopFreeze real reason behaviour request) r e = absurd cc
unable_by a k q stamp (Acknowledge flag response request) r e = absurd (outside flag response request r)
unable_by a k q stamp (ActionRequest request action datums) r e = refl
unable_by a k q stamp (ActionResponse request status datums) r e = absurd cc
unable_by a k q stamp (DataQuery request interval ids) r e = refl
unable_by a k q stamp (SetData request datums) r e = refl
unable_by a k q stamp (DataPdu request datums) r e = absurd cc
unable_by a k q stamp (EventReport event datums) r e = absurd cc
unable_by a k q stamp (Comment datums) r e = absurd cc

-- what is no number of an entity stays Absent
scoped : (c : Change) (e : ℕ) → state_made c.kind Absent ≡ Absent → changed e Absent c ≡ Absent
scoped c e made = elim (scope_has c.scope e) as (λ b. (if b then state_made c.kind Absent else Absent) ≡ Absent) [ true ↦ made | false ↦ refl ]

negated : (b : Bool) → not b ≡ false → b ≡ true
negated true e = refl
negated false e = absurd cc

stays_create : (s : Scope) (e : ℕ) (y : ℕ → EntityState) → is_hopeless kinds.CreateEntity s y ≡ false → is_entity e ≡ false
    → changed e Absent (record { kind = kinds.CreateEntity; scope = s }) ≡ Absent
stays_create All e y h out = absurd cc
stays_create (One n) e y h out = by (n == e) refl where
  by : (b : Bool) → (n == e) ≡ b → (if b then Stopped else Absent) ≡ Absent
  by false t = refl
  by true t =
      let same : n ≡ e = grind (arith, nat_tests) in
      let free = and_parts (is_entity n) (is_absent (y n)) (negated (is_entity n && is_absent (y n)) h) in
      let clash : is_entity e ≡ true = subst (λ (m : ℕ). is_entity m ≡ true) same free.0 in absurd cc

pub stays_by : (kind : Kind) (s : Scope) (e : ℕ) (y : ℕ → EntityState) → is_hopeless kind s y ≡ false → is_entity e ≡ false
    → changed e Absent (record { kind = kind; scope = s }) ≡ Absent
stays_by kinds.CreateEntity s e y h out = stays_create s e y h out
stays_by kinds.RemoveEntity s e y h out = scoped (record { kind = kinds.RemoveEntity; scope = s }) e refl
stays_by kinds.StartResume s e y h out = scoped (record { kind = kinds.StartResume; scope = s }) e refl
stays_by kinds.StopFreeze s e y h out = scoped (record { kind = kinds.StopFreeze; scope = s }) e refl
stays_by kinds.Acknowledge s e y h out = scoped (record { kind = kinds.Acknowledge; scope = s }) e refl
stays_by kinds.ActionRequest s e y h out = scoped (record { kind = kinds.ActionRequest; scope = s }) e refl
stays_by kinds.ActionResponse s e y h out = scoped (record { kind = kinds.ActionResponse; scope = s }) e refl
stays_by kinds.DataQuery s e y h out = scoped (record { kind = kinds.DataQuery; scope = s }) e refl
stays_by kinds.SetData s e y h out = scoped (record { kind = kinds.SetData; scope = s }) e refl
stays_by kinds.DataPdu s e y h out = scoped (record { kind = kinds.DataPdu; scope = s }) e refl
stays_by kinds.EventReport s e y h out = scoped (record { kind = kinds.EventReport; scope = s }) e refl
stays_by kinds.Comment s e y h out = scoped (record { kind = kinds.Comment; scope = s }) e refl

pub outside_range : (x : ℕ) (a : AppProfile) (log : History) (e : ℕ) → is_entity e ≡ false → state_after x a.station log e ≡ Absent
unfolding state_after
outside_range x a log e out = ap (λ (b : Bool). if b then entity_state x a.station log e else Absent) out

-- a first answer in a log that leaves an entity's state to that of the play
pub answered_state : (x : ℕ) (a : AppProfile) (log : History) (s t : ℕ) (b c : List ℕ) (q p : Pdu) → IsFirstAnswer x a.station log b c q p
    → (responds able p ≡ true → IsPossible (change_of p q) (λ e. state_after x a.station log e))
    → (e : ℕ) → state_after x a.station (Send s c ∷ Get t b ∷ log) e ≡ after p q (λ e. state_after x a.station log e) e
answered_state x a log s t b c q p first can e = by (responds able p) refl where
  outside_by : responds able p ≡ true → (v : Bool) → is_entity e ≡ v → state_after x a.station (Send s c ∷ Get t b ∷ log) e ≡ changed e (state_after x a.station log e) (change_of p q)
  outside_by r true v = able_changes x a.station log s t b c q p first r e v
  outside_by r false v =
      outside_range x a (Send s c ∷ Get t b ∷ log) e v
      ∙ sym (ap (λ (y : EntityState). changed e y (change_of p q)) (outside_range x a log e v)
      ∙ stays_by (body_kind q.body) (scope_of (body_kind q.body) q.target.entity p.origin.entity) e (λ e. state_after x a.station log e) (can r).possible v)

  by : (v : Bool) → responds able p ≡ v → state_after x a.station (Send s c ∷ Get t b ∷ log) e ≡ (if v then changed e (state_after x a.station log e) (change_of p q) else state_after x a.station log e)
  by true r = outside_by r (is_entity e) refl
  by false r = others_keep x a.station (Get t b ∷ log) s c p first.answer r e ∙ received_keeps x a.station log t b e

-- a request under no key before, and its answer, go on in the play
first_in_play : (a : AppProfile) (d : Pdu) (ds : List Pdu) → is_for a d ≡ true → AreFor a ds → AreSpelled a ds → first_under d ds ≡ None
    → meaning a.exercise (pdu_text d) ≡ Some (carried d) → meaning a.exercise (pdu_text (answer a (known a ds) d 0)) ≡ Some (answer a (known a ds) d 0)
    → IsFirstAnswer a.exercise a.station (play a ds) (pdu_text d) (pdu_text (answer a (known a ds) d 0)) (carried d) (answer a (known a ds) d 0)
first_in_play a d ds own are spelled none m n =
    let p = answer a (known a ds) d 0 in
    let is = is_answer a (known a ds) d 0 own in
    let parts = for_parts a d own in
    let id = request_id d parts.request in
    record {
      request = m;
      answer = n;
      asked = is_asked_by a (known a ds).states d p id.0 parts is id.1;
      answers = is.answers;
      first = none_taken a ds spelled d p is.target is.id none;
      fresh = λ k e. none_acked a ds spelled are d p able k is.target is.id (key_is p k e) none;
    }

-- THE STATES GO ON: one more request changes them as its answer says
pub states_go_on : (a : AppProfile) (d : Pdu) (ds : List Pdu) → is_for a d ≡ true → AreFor a ds → AreSpelled a (d ∷ ds) → first_under d ds ≡ None
    → (e : ℕ) → state_over a (d ∷ ds) e ≡ after (answer a (known a ds) d 0) d (state_over a ds) e
states_go_on a d ds own are spelled none e = by (is_for_entities (body_kind d.body)) refl where
  by : (b : Bool) → is_for_entities (body_kind d.body) ≡ b → state_over a (d ∷ ds) e ≡ after (answer a (known a ds) d 0) d (state_over a ds) e
  by true f =
      ap (λ (log : History). state_after a.exercise a.station log e) (play_more a d ds true f)
      ∙ answered_state a.exercise a (play a ds) 0 0 (pdu_text d) (pdu_text (answer a (known a ds) d 0)) (carried d) (answer a (known a ds) d 0)
      (first_in_play a d ds own are spelled.1 none (spelled.0 f).0 (spelled.0 f).1) (is_answer a (known a ds) d 0 own).able_can e
  by false f =
      ap (λ (log : History). state_after a.exercise a.station log e) (play_more a d ds false f)
      ∙ sym (ap (λ (v : Bool). if v then changed e (state_over a ds e) (change_of (answer a (known a ds) d 0) d) else state_over a ds e)
      (unable_by a (known a ds) d 0 d.body (for_parts a d own).request f))
