-- Every answer to a request in its ranges is in its ranges, and has at most 8192 bytes: so its text is read as it.
use Rattle.std.proofs.Common.{◌≡◌, ℕ, ◌-◌, ◌*◌, ◌^◌, ◌<◌, ◌≤◌, List, [], ◌∷◌, length, take, refl, sym, ◌∙◌, subst, arith}
use Rattle.std.specs.Prelude.{Bool, true, false, ◌==◌, ◌&&◌, nat_le, All, Option, Some, None, IfSome, is_none, option_to_list, if◌then◌else◌}
use Rattle.std.specs.List.{list_any}
use Rattle.std.specs.Option.{option_or}
use Rattle.std.proofs.lemmas.Bool.Decides.{nat_tests}
use Rattle.std.proofs.lemmas.List.Elements.{All-nil, All-cons, All-head, All-tail, All-append, All-take}
use Rattle.std.proofs.lemmas.Bool.{and_parts}
use Rattle.exercise_model.specs.declared.station.TheConstants.{LARGEST_ENTITY}
use Rattle.dis_records.specs.declared.header.TheConstants.{LARGEST_DATAGRAM}
use Rattle.dis_records.specs.declared.datum.FixedDatum.{FixedDatum}
use Rattle.dis_records.specs.declared.entity_state.EntityState.{EntityState}
use Rattle.dis_records.specs.declared.kind.Kind.{Kind}
use Rattle.dis_records.specs.Datum.{Datum, padded}
use Rattle.dis_records.specs.Entity.{is_open}
use Rattle.dis_records.specs.Layout.{size}
use Rattle.siman_pdus.specs.declared.pdu.Body.{Body}
use Rattle.siman_pdus.specs.declared.pdu.Body.TheVariants.{CreateEntity, RemoveEntity, StartResume, StopFreeze, Acknowledge, ActionRequest, ActionResponse, DataQuery, SetData, DataPdu, EventReport, Comment}
use Rattle.siman_pdus.specs.declared.pdu.Pdu.{Pdu}
use Rattle.siman_pdus.specs.DatumLists.{DatumLists, IdLists}
use Rattle.siman_pdus.specs.Ranges.{IsFixedInRange, IsVariableInRange, AreDatumsInRange, IsBodyInRange, IsInRange}
use Rattle.siman_pdus.specs.Reading.{reading}
use Rattle.siman_pdus.specs.Role.{is_request_body}
use Rattle.siman_pdus.specs.Same.{is_same_order}
use Rattle.siman_pdus.specs.Spelling.{body_kind, body_layout, HasCarriedStatus, carried, pdu_size, pdu_text}
use Rattle.siman_pdus.proofs.Offered.{text_is_read, text_is_carried, zero_is_carried}
use Rattle.exercise_model.specs.Station.{is_entity, is_absent}
use Rattle.exercise_model.specs.Change.{able, unable}
use Rattle.siman_application.specs.AppProfile.{AppProfile}
use Rattle.siman_application.specs.Ranges.{IsProfileInRange}
use Rattle.siman_application.specs.Records.{fixed_id, variable_id, last_under, stored, found, fitting, cut_records}
use Rattle.siman_application.specs.Distinct.{Placed, is_for, is_under_key, first_under, distinct}
use Rattle.siman_application.specs.Answer.{Knowledge, chosen, is_meant, own_number, answer_pdu, plain_answer, created, obeyed, no_datums, data_answer, held_records, result_of, ids_of, brought, answer_by, answer}
use Rattle.siman_application.specs.KeptRequests.{AreFor}
use Rattle.siman_application.specs.Play.{is_for_entities, fixed_after, variable_after, known, answer_under, reply_after, reply}
use Rattle.siman_application.proofs.Answered.{for_parts, is_answer, is_chosen, outside}
use Rattle.siman_application.proofs.DataThatFits.{cut_is, cut_fits, data_size}

-- Records under identifiers.

last_in : {X : Type 0} (P : X → Type 0) (id_of : X → ℕ) (id : ℕ) (xs : List X) → All P xs → (x : X) → last_under id_of id xs ≡ Some x → P x
last_in P id_of id [] all x e = absurd cc
last_in {X = X} P id_of id (y ∷ ys) all x e = by (last_under id_of id ys) (last_in P id_of id ys (All-tail P y ys all)) (id_of y == id) e where
  here : (b : Bool) → (if b then Some y else None) ≡ Some x → P x
  here true f = let same : y ≡ x = cc in subst P same (All-head P y ys all)
  here false f = absurd cc

  by : (o : Option X) → ((z : X) → o ≡ Some z → P z) → (b : Bool) → option_or o (if b then Some y else None) ≡ Some x → P x
  by (Some z) rest b f = rest x f
  by None rest b f = here b f

stored_in : {X : Type 0} (P : X → Type 0) (came held : Option X) → ((x : X) → came ≡ Some x → P x) → ((x : X) → held ≡ Some x → P x) → (x : X)
    → stored came held ≡ Some x → P x
stored_in P came None c h x e = absurd cc
stored_in P None (Some y) c h x e = h x e
stored_in P (Some z) (Some y) c h x e = c x e

found_in : {X : Type 0} (P : X → Type 0) (held : ℕ → Option X) → ((id : ℕ) (x : X) → held id ≡ Some x → P x) → (ids : List ℕ) → All P (found held ids)
found_in P held all [] = All-nil P
found_in {X = X} P held all (id ∷ ids) =
    All-append P (option_to_list (held id)) (found held ids) (one (held id) (all id)) (found_in P held all ids) where
      one : (o : Option X) → ((x : X) → o ≡ Some x → P x) → All P (option_to_list o)
      one None h = All-nil P
      one (Some x) h = All-cons P x [] (h x refl) (All-nil P)

fitting_in : (P : Datum → Type 0) (room : ℕ) (ds : List Datum) → All P ds → All P (fitting room ds)
fitting_in P room [] all = All-nil P
fitting_in P room (d ∷ ds) all = by (nat_le (padded d.bits) room) (fitting_in P (room - padded d.bits) ds (All-tail P d ds all)) where
  by : (b : Bool) → All P (fitting (room - padded d.bits) ds) → All P (if b then d ∷ fitting (room - padded d.bits) ds else [])
  by true rest = All-cons P d (fitting (room - padded d.bits) ds) (All-head P d ds all) rest
  by false rest = All-nil P

no_datums_in : AreDatumsInRange no_datums
no_datums_in = (All-nil IsFixedInRange, All-nil IsVariableInRange)

brought_in : (body : Body) → IsBodyInRange body → AreDatumsInRange (brought body)
brought_in (CreateEntity request) h = no_datums_in
brought_in (RemoveEntity request) h = no_datums_in
brought_in (StartResume real sim request) h = no_datums_in
brought_in (StopFreeze real reason behaviour request) h = no_datums_in
brought_in (Acknowledge flag response request) h = no_datums_in
brought_in (ActionRequest request action datums) h = no_datums_in
brought_in (ActionResponse request status datums) h = no_datums_in
brought_in (DataQuery request interval ids) h = no_datums_in
brought_in (SetData request datums) h = h.1
brought_in (DataPdu request datums) h = no_datums_in
brought_in (EventReport event datums) h = no_datums_in
brought_in (Comment datums) h = no_datums_in

-- What is known.

-- each of some PDUs is so
abbrev pub Each : (Pdu → Type 0) → List Pdu → Type 0
Each P [] = Unit {0}
Each P (d ∷ ds) = P d × Each P ds

fixed_in : (a : AppProfile) (ds : List Pdu) → IsProfileInRange a → Each IsInRange ds → (id : ℕ) (d : FixedDatum) → fixed_after a ds id ≡ Some d
    → IsFixedInRange d
fixed_in a [] own each id d e = last_in IsFixedInRange fixed_id id a.datums.fixed own.datums.0 d e
fixed_in a (q ∷ ds) own each id d e =
    stored_in IsFixedInRange (last_under fixed_id id (brought q.body).fixed) (fixed_after a ds id)
    (last_in IsFixedInRange fixed_id id (brought q.body).fixed (brought_in q.body each.0.body).0) (fixed_in a ds own each.1 id) d e

variable_in : (a : AppProfile) (ds : List Pdu) → IsProfileInRange a → Each IsInRange ds → (id : ℕ) (d : Datum) → variable_after a ds id ≡ Some d
    → IsVariableInRange d
variable_in a [] own each id d e = last_in IsVariableInRange variable_id id a.datums.variable own.datums.1 d e
variable_in a (q ∷ ds) own each id d e =
    stored_in IsVariableInRange (last_under variable_id id (brought q.body).variable) (variable_after a ds id)
    (last_in IsVariableInRange variable_id id (brought q.body).variable (brought_in q.body each.0.body).1) (variable_in a ds own each.1 id) d e

-- the records that are known are in their ranges
record KnowsInRange (k : Knowledge) : Type 0 where
  fixed : (id : ℕ) (d : FixedDatum) → k.fixed id ≡ Some d → IsFixedInRange d
  variable : (id : ℕ) (d : Datum) → k.variable id ≡ Some d → IsVariableInRange d

known_in : (a : AppProfile) (ds : List Pdu) → IsProfileInRange a → Each IsInRange ds → KnowsInRange (known a ds)
known_in a ds own each = record { fixed = fixed_in a ds own each; variable = variable_in a ds own each }

listed_in : (d : DatumLists) (k : Knowledge) → AreDatumsInRange d → KnowsInRange k → KnowsInRange (result_of d k)
listed_in d k datums knows = record {
  fixed = λ id. stored_in IsFixedInRange (last_under fixed_id id d.fixed) (k.fixed id) (last_in IsFixedInRange fixed_id id d.fixed datums.0) (knows.fixed id);
  variable = λ id. stored_in IsVariableInRange (last_under variable_id id d.variable) (k.variable id) (last_in IsVariableInRange variable_id id d.variable datums.1) (knows.variable id);
}

held_in : (k : Knowledge) (ids : IdLists) → KnowsInRange k → AreDatumsInRange (held_records k ids)
held_in k ids knows = (found_in IsFixedInRange k.fixed knows.fixed ids.fixed, found_in IsVariableInRange k.variable knows.variable ids.variable)

cut_in : (d : DatumLists) → AreDatumsInRange d → AreDatumsInRange (cut_records d)
cut_in d h = (All-take IsFixedInRange 1019 d.fixed h.0, fitting_in IsVariableInRange (8152 - 8 * length (take 1019 d.fixed)) d.variable h.1)

-- Answers.

own_in : (kind : Kind) (n : ℕ) → n < 2 ^ 16 → own_number kind n < 2 ^ 16
own_in kind n h = by (is_open kind n) where
  by : (b : Bool) → (if b then 0 else n) < 2 ^ 16
  by true = omega arith
  by false = h

from_in : (a : AppProfile) (q : Pdu) (stamp m : ℕ) (body : Body) → IsProfileInRange a → IsInRange q → stamp < 2 ^ 32 → m < 2 ^ 16 → IsBodyInRange body
    → IsInRange (answer_pdu a q stamp m body)
from_in a q stamp m body own r s number b =
    record { exercise = own.exercise; stamp = s; status = omega arith; origin = (own.site, own.application, number); target = r.origin; body = b }

plain_in : (a : AppProfile) (q : Pdu) (stamp : ℕ) (body : Body) → IsProfileInRange a → IsInRange q → stamp < 2 ^ 32 → IsBodyInRange body
    → IsInRange (plain_answer a q stamp body)
plain_in a q stamp body own r s b =
    from_in a q stamp (own_number (body_kind q.body) q.target.entity) body own r s (own_in (body_kind q.body) q.target.entity r.target.2) b

created_in : (a : AppProfile) (y : ℕ → EntityState) (q : Pdu) (stamp request : ℕ) → IsProfileInRange a → IsInRange q → stamp < 2 ^ 32 → request < 2 ^ 32
    → (o : Option ℕ) → chosen y q.target.entity ≡ o → IsInRange (created a q stamp request o)
created_in a y q stamp request own r s h None e = plain_in a q stamp (Acknowledge 1 unable request) own r s (omega arith, omega arith, h)
created_in a y q stamp request own r s h (Some m) e =
    let free = and_parts (is_entity m) (is_absent (y m)) (is_chosen y q.target.entity m e).free in
    let range = and_parts (nat_le 1 m) (nat_le m LARGEST_ENTITY) free.0 in
    let top : nat_le m LARGEST_ENTITY ≡ true = range.1 in
    let high : m ≤ LARGEST_ENTITY = grind (arith, nat_tests) in
    from_in a q stamp m (Acknowledge 1 able request) own r s (omega arith) (omega arith, omega arith, h)

obeyed_in : (a : AppProfile) (y : ℕ → EntityState) (q : Pdu) (stamp flag request : ℕ) → IsProfileInRange a → IsInRange q → stamp < 2 ^ 32 → flag < 2 ^ 16
    → request < 2 ^ 32 → IsInRange (obeyed a y q stamp flag request)
obeyed_in a y q stamp flag request own r s f h = by (is_meant (body_kind q.body) y q.target.entity) where
  by : (b : Bool) → IsInRange (plain_answer a q stamp (Acknowledge flag (if b then able else unable) request))
  by true = plain_in a q stamp (Acknowledge flag able request) own r s (f, omega arith, h)
  by false = plain_in a q stamp (Acknowledge flag unable request) own r s (f, omega arith, h)

acted_in : (a : AppProfile) (q : Pdu) (stamp request : ℕ) → IsProfileInRange a → IsInRange q → stamp < 2 ^ 32 → request < 2 ^ 32 → (b : Bool)
    → IsInRange (plain_answer a q stamp (ActionResponse request (if b then 4 else 5) no_datums))
acted_in a q stamp request own r s h true = plain_in a q stamp (ActionResponse request 4 no_datums) own r s (h, omega arith, no_datums_in)
acted_in a q stamp request own r s h false = plain_in a q stamp (ActionResponse request 5 no_datums) own r s (h, omega arith, no_datums_in)

data_in : (a : AppProfile) (q : Pdu) (stamp request : ℕ) (d : DatumLists) → IsProfileInRange a → IsInRange q → stamp < 2 ^ 32 → request < 2 ^ 32
    → AreDatumsInRange d → IsInRange (data_answer a q stamp request d)
data_in a q stamp request d own r s h datums =
    subst IsInRange (sym (cut_is a q stamp request d)) (plain_in a q stamp (DataPdu request (cut_records d)) own r s (h, cut_in d datums))

-- what is known is asked for where the request is not for entities
answer_in_by : (a : AppProfile) (k : Knowledge) (q : Pdu) (stamp : ℕ) → IsProfileInRange a → IsInRange q → stamp < 2 ^ 32
    → (body : Body) → IsBodyInRange body → (is_for_entities (body_kind body) ≡ false → KnowsInRange k) → IsInRange (answer_by a k q stamp body)
answer_in_by a k q stamp own r s (CreateEntity request) h knows =
    created_in a k.states q stamp request own r s h (chosen k.states q.target.entity) refl
answer_in_by a k q stamp own r s (RemoveEntity request) h knows = obeyed_in a k.states q stamp 2 request own r s (omega arith) h
answer_in_by a k q stamp own r s (StartResume real sim request) h knows = obeyed_in a k.states q stamp 3 request own r s (omega arith) h.2
answer_in_by a k q stamp own r s (StopFreeze real reason behaviour request) h knows = obeyed_in a k.states q stamp 4 request own r s (omega arith) h.3
answer_in_by a k q stamp own r s (Acknowledge flag response request) h knows = r
answer_in_by a k q stamp own r s (ActionRequest request action datums) h knows =
    acted_in a q stamp request own r s h.0 (list_any (λ known. known == action) a.actions && is_meant (body_kind q.body) k.states q.target.entity)
answer_in_by a k q stamp own r s (ActionResponse request status datums) h knows = r
answer_in_by a k q stamp own r s (DataQuery request interval ids) h knows =
    data_in a q stamp request (held_records k ids) own r s h.0 (held_in k ids (knows refl))
answer_in_by a k q stamp own r s (SetData request datums) h knows =
    data_in a q stamp request (held_records (result_of datums k) (ids_of datums)) own r s h.0
    (held_in (result_of datums k) (ids_of datums) (listed_in datums k h.1 (knows refl)))
answer_in_by a k q stamp own r s (DataPdu request datums) h knows = r
answer_in_by a k q stamp own r s (EventReport event datums) h knows = r
answer_in_by a k q stamp own r s (Comment datums) h knows = r

answer_in_range : (a : AppProfile) (ds : List Pdu) (q : Pdu) (stamp : ℕ) → IsProfileInRange a → Each IsInRange ds → IsInRange q → stamp < 2 ^ 32
    → IsInRange (answer a (known a ds) q stamp)
answer_in_range a ds q stamp own each r s = answer_in_by a (known a ds) q stamp own r s q.body r.body (λ e. known_in a ds own each)

-- Sizes.

created_size : (a : AppProfile) (q : Pdu) (stamp request : ℕ) (o : Option ℕ) → pdu_size (created a q stamp request o) ≤ LARGEST_DATAGRAM
created_size a q stamp request None = omega arith
created_size a q stamp request (Some m) = omega arith

data_fits : (a : AppProfile) (q : Pdu) (stamp request : ℕ) (d : DatumLists) → pdu_size (data_answer a q stamp request d) ≤ LARGEST_DATAGRAM
data_fits a q stamp request d =
    subst (λ (p : Pdu). pdu_size p ≤ LARGEST_DATAGRAM) (sym (cut_is a q stamp request d))
    (omega (arith, data_size a q stamp request (cut_records d), cut_fits d))

answer_size_by : (a : AppProfile) (k : Knowledge) (q : Pdu) (stamp : ℕ) (body : Body) → is_request_body body ≡ true
    → pdu_size (answer_by a k q stamp body) ≤ LARGEST_DATAGRAM
answer_size_by a k q stamp (CreateEntity request) e = created_size a q stamp request (chosen k.states q.target.entity)
answer_size_by a k q stamp (RemoveEntity request) e = omega arith
answer_size_by a k q stamp (StartResume real sim request) e = omega arith
answer_size_by a k q stamp (StopFreeze real reason behaviour request) e = omega arith
answer_size_by a k q stamp (Acknowledge flag response request) e = absurd (outside flag response request e)
answer_size_by a k q stamp (ActionRequest request action datums) e = omega arith
answer_size_by a k q stamp (ActionResponse request status datums) e = absurd cc
answer_size_by a k q stamp (DataQuery request interval ids) e = data_fits a q stamp request (held_records k ids)
answer_size_by a k q stamp (SetData request datums) e = data_fits a q stamp request (held_records (result_of datums k) (ids_of datums))
answer_size_by a k q stamp (DataPdu request datums) e = absurd cc
answer_size_by a k q stamp (EventReport event datums) e = absurd cc
answer_size_by a k q stamp (Comment datums) e = absurd cc

answer_size : (a : AppProfile) (k : Knowledge) (q : Pdu) (stamp : ℕ) → is_for a q ≡ true → pdu_size (answer a k q stamp) ≤ LARGEST_DATAGRAM
answer_size a k q stamp own = answer_size_by a k q stamp q.body (for_parts a q own).request

-- An answer has status 0.
answer_status : (a : AppProfile) (k : Knowledge) (q : Pdu) (stamp : ℕ) → is_for a q ≡ true → HasCarriedStatus (answer a k q stamp)
answer_status a k q stamp own = zero_is_carried (answer a k q stamp) (is_answer a k q stamp own).status

-- A request for entities and its answer, which needs nothing that is known of datums.

small_body : (body : Body) → is_for_entities (body_kind body) ≡ true → size (body_layout body) ≤ 20
small_body (CreateEntity request) e = omega arith
small_body (RemoveEntity request) e = omega arith
small_body (StartResume real sim request) e = omega arith
small_body (StopFreeze real reason behaviour request) e = omega arith
small_body (Acknowledge flag response request) e = absurd cc
small_body (ActionRequest request action datums) e = absurd cc
small_body (ActionResponse request status datums) e = absurd cc
small_body (DataQuery request interval ids) e = absurd cc
small_body (SetData request datums) e = absurd cc
small_body (DataPdu request datums) e = absurd cc
small_body (EventReport event datums) e = absurd cc
small_body (Comment datums) e = absurd cc

pub request_read : (q : Pdu) → IsInRange q → is_for_entities (body_kind q.body) ≡ true → reading (pdu_text q) ≡ Some (carried q)
request_read q r e = let small = small_body q.body e in text_is_carried q r (omega (arith, small))

pub answer_read : (a : AppProfile) (k : Knowledge) (q : Pdu) (stamp : ℕ) → IsProfileInRange a → IsInRange q → stamp < 2 ^ 32 → is_for a q ≡ true
    → is_for_entities (body_kind q.body) ≡ true
    → reading (pdu_text (answer a k q stamp)) ≡ Some (answer a k q stamp)
answer_read a k q stamp own r s mine e =
    text_is_read (answer a k q stamp) (answer_in_by a k q stamp own r s q.body r.body (λ no. let clash : true ≡ false = sym e ∙ no in absurd cc))
    (answer_status a k q stamp mine) (answer_size a k q stamp mine)

-- Replies.

-- the first request under a key, and those before it, are as each is
first_in : (P : Pdu → Type 0) (q : Pdu) (ds : List Pdu) → Each P ds → (f : Placed) → first_under q ds ≡ Some f → P f.request × Each P f.before
unfolding first_under
first_in P q [] each f e = absurd cc
first_in P q (d ∷ ds) each f e = by (first_under q ds) (first_in P q ds each.1) (is_under_key q d) e where
  here : (b : Bool) → (if b then Some (record { request = d; before = ds }) else None) ≡ Some f → P f.request × Each P f.before
  here true g = let same : record { request = d; before = ds } ≡ f = cc in subst (λ (p : Placed). P p.request × Each P p.before) same each
  here false g = absurd cc

  by : (o : Option Placed) → ((p : Placed) → o ≡ Some p → P p.request × Each P p.before) → (b : Bool)
      → option_or o (if b then Some (record { request = d; before = ds }) else None) ≡ Some f → P f.request × Each P f.before
  by (Some p) rest b g = rest f g
  by None rest b g = here b g

-- what holds of each answer to a request that came holds of a reply
reply_as : (Q : Pdu → Type 0) (a : AppProfile) (ds : List Pdu) (q : Pdu) (stamp : ℕ) → (is_for a q ≡ true → Q (answer a (known a ds) q stamp))
    → ((f : Placed) → first_under q ds ≡ Some f → Q (answer a (known a f.before) f.request stamp)) → IfSome (reply_after a ds q stamp) Q
reply_as Q a ds q stamp new again = by (is_for a q) refl (first_under q ds) refl where
  here : (f : Placed) → first_under q ds ≡ Some f → (b : Bool) → IfSome (if b then Some (answer a (known a f.before) f.request stamp) else None) Q
  here f e true = again f e
  here f e false = tt

  by : (b : Bool) → is_for a q ≡ b → (o : Option Placed) → first_under q ds ≡ o → IfSome (if b then answer_under a ds q stamp o else None) Q
  by false own o e = tt
  by true own None e = new own
  by true own (Some f) e = here f e (is_same_order q f.request)

each_for : (a : AppProfile) (ds : List Pdu) → AreFor a ds → Each (λ d. is_for a d ≡ true) ds
each_for a [] are = tt
each_for a (d ∷ ds) are = (are.0, each_for a ds are.1)

pub reply_size : (a : AppProfile) (ds : List Pdu) (q : Pdu) (stamp : ℕ) → AreFor a ds
    → IfSome (reply_after a ds q stamp) (λ p. pdu_size p ≤ LARGEST_DATAGRAM)
reply_size a ds q stamp are =
    reply_as (λ p. pdu_size p ≤ LARGEST_DATAGRAM) a ds q stamp (answer_size a (known a ds) q stamp)
    (λ f e. answer_size a (known a f.before) f.request stamp (first_in (λ d. is_for a d ≡ true) q ds (each_for a ds are) f e).0)

pub reply_status : (a : AppProfile) (ds : List Pdu) (q : Pdu) (stamp : ℕ) → AreFor a ds → IfSome (reply_after a ds q stamp) HasCarriedStatus
reply_status a ds q stamp are =
    reply_as HasCarriedStatus a ds q stamp (answer_status a (known a ds) q stamp)
    (λ f e. answer_status a (known a f.before) f.request stamp (first_in (λ d. is_for a d ≡ true) q ds (each_for a ds are) f e).0)

-- Each distinct request is for the station, and is as each that was taken.

own_distinct : (a : AppProfile) (qs : List Pdu) → Each (λ d. is_for a d ≡ true) (distinct a qs)
own_distinct a [] = tt
own_distinct a (q ∷ qs) = by (is_for a q) refl (is_none (first_under q (distinct a qs))) (own_distinct a qs) where
  by : (b : Bool) → is_for a q ≡ b → (c : Bool) → Each (λ d. is_for a d ≡ true) (distinct a qs) → Each (λ d. is_for a d ≡ true) (if b && c then q ∷ distinct a qs else distinct a qs)
  by true own true each = (own, each)
  by true own false each = each
  by false own c each = each

pub for_at : (a : AppProfile) (qs : List Pdu) (r : Pdu) (f : Placed) → first_under r (distinct a qs) ≡ Some f → is_for a f.request ≡ true
for_at a qs r f e = (first_in (λ d. is_for a d ≡ true) r (distinct a qs) (own_distinct a qs) f e).0

each_distinct : (P : Pdu → Type 0) (a : AppProfile) (qs : List Pdu) → Each P qs → Each P (distinct a qs)
each_distinct P a [] each = tt
each_distinct P a (q ∷ qs) each = by (is_for a q && is_none (first_under q (distinct a qs))) (each_distinct P a qs each.1) where
  by : (b : Bool) → Each P (distinct a qs) → Each P (if b then q ∷ distinct a qs else distinct a qs)
  by true rest = (each.0, rest)
  by false rest = rest

-- THE TEXT OF A REPLY is read as it.
pub reply_read : (a : AppProfile) (qs : List Pdu) (q : Pdu) (stamp : ℕ) → IsProfileInRange a → Each IsInRange qs → IsInRange q → stamp < 2 ^ 32
    → IfSome (reply a qs q stamp) (λ p. reading (pdu_text p) ≡ Some p)
reply_read a qs q stamp own each r s =
    let ds = distinct a qs in
    let all = each_distinct IsInRange a qs each in
    reply_as (λ p. reading (pdu_text p) ≡ Some p) a ds q stamp
    (λ mine. text_is_read (answer a (known a ds) q stamp) (answer_in_range a ds q stamp own all r s) (answer_status a (known a ds) q stamp mine)
    (answer_size a (known a ds) q stamp mine))
    (λ f e. let found = first_in IsInRange q ds all f e in
    text_is_read (answer a (known a f.before) f.request stamp) (answer_in_range a f.before f.request stamp own found.1 found.0 s)
    (answer_status a (known a f.before) f.request stamp (for_at a qs q f e)) (answer_size a (known a f.before) f.request stamp (for_at a qs q f e)))

-- A reply is an answer to a request for the station: what holds of each of these holds of it.
pub reply_answers : (Q : Pdu → Type 0) (a : AppProfile) (qs : List Pdu) (q : Pdu) (stamp : ℕ)
    → ((k : Knowledge) (d : Pdu) → is_for a d ≡ true → Q (answer a k d stamp)) → IfSome (reply a qs q stamp) Q
reply_answers Q a qs q stamp each =
    reply_as Q a (distinct a qs) q stamp (each (known a (distinct a qs)) q) (λ f e. each (known a f.before) f.request (for_at a qs q f e))

-- A reply is in its ranges.
pub reply_in_range : (a : AppProfile) (qs : List Pdu) (q : Pdu) (stamp : ℕ) → IsProfileInRange a → Each IsInRange qs → IsInRange q → stamp < 2 ^ 32
    → IfSome (reply a qs q stamp) IsInRange
reply_in_range a qs q stamp own each r s =
    let all = each_distinct IsInRange a qs each in
    reply_as IsInRange a (distinct a qs) q stamp (λ mine. answer_in_range a (distinct a qs) q stamp own all r s)
    (λ f e. let found = first_in IsInRange q (distinct a qs) all f e in answer_in_range a f.before f.request stamp own found.1 found.0 s)

-- It has at most 8192 bytes.
pub reply_is_short : (a : AppProfile) (qs : List Pdu) (q : Pdu) (stamp : ℕ) → IfSome (reply a qs q stamp) (λ p. pdu_size p ≤ LARGEST_DATAGRAM)
reply_is_short a qs q stamp = reply_answers (λ p. pdu_size p ≤ LARGEST_DATAGRAM) a qs q stamp (λ k d own. answer_size a k d stamp own)
