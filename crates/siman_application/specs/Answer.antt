-- The answer to a new request, given what the application knows then (profile, over IEEE 1278.1-2012, 5.6.5).
use Rattle.std.specs.Prelude.{ℕ, zero, suc, ◌+◌, ◌-◌, Bool, ◌==◌, ◌&&◌, ◌||◌, not, nat_le, nat_lt, [], length, map, take, Option, Some, None, if◌then◌else◌}
use Rattle.std.specs.List.{list_any}
use Rattle.dis_records.specs.declared.entity_number.TheConstants.{ANY_NUMBER}
use Rattle.exercise_model.specs.declared.station.TheConstants.{LARGEST_ENTITY}
use Rattle.siman_application.specs.declared.entity_list.TheConstants.{MOST_ENTITIES}
use Rattle.dis_records.specs.declared.header.TheConstants.{LARGEST_DATAGRAM}
use Rattle.dis_records.specs.declared.datum.FixedDatum.{FixedDatum}
use Rattle.dis_records.specs.declared.entity_state.EntityState.{EntityState}
use Rattle.dis_records.specs.declared.kind.Kind.{Kind}
use Rattle.dis_records.specs.Datum.{Datum}
use Rattle.dis_records.specs.Entity.{is_open}
use Rattle.siman_pdus.specs.declared.pdu.Body.{Body}
use Rattle.siman_pdus.specs.declared.pdu.Body.TheVariants.{CreateEntity, RemoveEntity, StartResume, StopFreeze, Acknowledge, ActionRequest, ActionResponse, DataQuery, SetData, DataPdu, EventReport, Comment}
use Rattle.siman_pdus.specs.declared.pdu.Pdu.{Pdu}
use Rattle.siman_pdus.specs.DatumLists.{DatumLists, IdLists}
use Rattle.siman_pdus.specs.Spelling.{body_kind, pdu_size}
use Rattle.exercise_model.specs.Station.{is_entity, is_absent}
use Rattle.exercise_model.specs.Change.{able, unable}
use Rattle.exercise_model.specs.Place.{first_below}
use Rattle.siman_application.specs.AppProfile.{AppProfile}
use Rattle.siman_application.specs.Records.{fixed_id, variable_id, last_under, stored, found}

-- what an application knows: the state of each entity, and the record that it holds under each datum identifier
pub record Knowledge : Type 0 where
  pub states : ℕ → EntityState
  pub fixed : ℕ → Option FixedDatum
  pub variable : ℕ → Option Datum

-- Entities.

-- how many of the numbers 1 to n are those of present entities
unfoldable pub count_present : (ℕ → EntityState) → ℕ → ℕ
count_present y zero = 0
count_present y (suc n) = count_present y n + (if is_absent (y (suc n)) then 0 else 1)

-- fewer than 4,096 entities are present
abbrev pub has_place : (ℕ → EntityState) → Bool
has_place y = nat_lt (count_present y LARGEST_ENTITY) MOST_ENTITIES

-- an entity of this number can be created
abbrev pub is_free : (ℕ → EntityState) → ℕ → Bool
is_free y e = is_entity e && is_absent (y e)

-- the number that a Create Entity for number n creates, if any: n, or for 0xFFFE the least that is free
abbrev pub chosen : (ℕ → EntityState) → ℕ → Option ℕ
chosen y n =
    if has_place y
    then (if n == ANY_NUMBER then first_below (is_free y) (LARGEST_ENTITY + 1) else (if is_free y n then Some n else None))
    else None

-- the number names a present entity, or no single one
abbrev pub is_meant : Kind → (ℕ → EntityState) → ℕ → Bool
is_meant kind y n = is_open kind n || not (is_absent (y n))

-- the originating number of an answer: that of the request, or 0 if that names no single entity
abbrev pub own_number : Kind → ℕ → ℕ
own_number kind n = if is_open kind n then 0 else n

-- Answers.

-- the answer to q from entity number m: in the request's version, of the exercise, status 0, to the request's originator
abbrev pub answer_pdu : AppProfile → Pdu → ℕ → ℕ → Body → Pdu
answer_pdu a q stamp m body = record {
  version = q.version;
  exercise = a.exercise;
  stamp = stamp;
  status = 0;
  origin = record { site = a.station.address.site; application = a.station.address.application; entity = m };
  target = q.origin;
  body = body;
}

-- the answer from the number of the request
abbrev pub plain_answer : AppProfile → Pdu → ℕ → Body → Pdu
plain_answer a q stamp body = answer_pdu a q stamp (own_number (body_kind q.body) q.target.entity) body

-- the Acknowledge of a Create Entity, with flag 1: able, from the number that is created, or unable
abbrev pub created : AppProfile → Pdu → ℕ → ℕ → Option ℕ → Pdu
created a q stamp request None = plain_answer a q stamp (Acknowledge 1 unable request)
created a q stamp request (Some m) = answer_pdu a q stamp m (Acknowledge 1 able request)

-- the Acknowledge of a Remove Entity (flag 2), Start/Resume (3) or Stop/Freeze (4): able if it is for all entities
-- or for a present one
abbrev pub obeyed : AppProfile → (ℕ → EntityState) → Pdu → ℕ → ℕ → ℕ → Pdu
obeyed a y q stamp flag request =
    plain_answer a q stamp (Acknowledge flag (if is_meant (body_kind q.body) y q.target.entity then able else unable) request)

-- the request status of an Action Response: 4 (complete) if the action is known, for all entities or for a present
-- one; else 5 (rejected)
abbrev pub action_status : AppProfile → (ℕ → EntityState) → Pdu → ℕ → ℕ
action_status a y q action =
    if list_any (λ known. known == action) a.actions && is_meant (body_kind q.body) y q.target.entity then 4 else 5

abbrev pub no_datums : DatumLists
no_datums = record { fixed = []; variable = [] }

-- Data.

-- the first k records, the fixed ones before the variable ones
abbrev pub first_records : ℕ → DatumLists → DatumLists
first_records k d = record { fixed = take k d.fixed; variable = take (k - length d.fixed) d.variable }

-- the largest number up to n that passes, or 0
unfoldable pub largest : (ℕ → Bool) → ℕ → ℕ
largest test zero = 0
largest test (suc n) = if test (suc n) then suc n else largest test n

abbrev pub record_count : DatumLists → ℕ
record_count d = length d.fixed + length d.variable

-- the Data that answers q with these records
abbrev pub data_pdu : AppProfile → Pdu → ℕ → ℕ → DatumLists → Pdu
data_pdu a q stamp request d = plain_answer a q stamp (DataPdu request d)

-- a Data with the longest prefix of the records with which it has at most 8192 bytes
abbrev pub data_answer : AppProfile → Pdu → ℕ → ℕ → DatumLists → Pdu
data_answer a q stamp request d =
    data_pdu a q stamp request (first_records (largest (λ k. nat_le (pdu_size (data_pdu a q stamp request (first_records k d))) LARGEST_DATAGRAM) (record_count d)) d)

-- the records held under these identifiers
abbrev pub held_records : Knowledge → IdLists → DatumLists
held_records k ids = record { fixed = found k.fixed ids.fixed; variable = found k.variable ids.variable }

-- the records of a Set Data
abbrev pub brought : Body → DatumLists
brought (CreateEntity request) = no_datums
brought (RemoveEntity request) = no_datums
brought (StartResume real sim request) = no_datums
brought (StopFreeze real reason behaviour request) = no_datums
brought (Acknowledge flag response request) = no_datums
brought (ActionRequest request action datums) = no_datums
brought (ActionResponse request status datums) = no_datums
brought (DataQuery request interval ids) = no_datums
brought (SetData request datums) = datums
brought (DataPdu request datums) = no_datums
brought (EventReport event datums) = no_datums
brought (Comment datums) = no_datums

-- what is known after these records are stored: under each identifier that is held, the last of them
abbrev pub result_of : DatumLists → Knowledge → Knowledge
result_of d k = record {
  states = k.states;
  fixed = λ id. stored (last_under fixed_id id d.fixed) (k.fixed id);
  variable = λ id. stored (last_under variable_id id d.variable) (k.variable id);
}

-- the identifiers of records
abbrev pub ids_of : DatumLists → IdLists
ids_of d = record { fixed = map fixed_id d.fixed; variable = map variable_id d.variable }

-- THE ANSWER TO A NEW REQUEST q, with this timestamp; a body that is no request has none, and the result is the PDU
-- itself
abbrev pub answer_by : AppProfile → Knowledge → Pdu → ℕ → Body → Pdu
answer_by a k q stamp (CreateEntity request) = created a q stamp request (chosen k.states q.target.entity)
answer_by a k q stamp (RemoveEntity request) = obeyed a k.states q stamp 2 request
answer_by a k q stamp (StartResume real sim request) = obeyed a k.states q stamp 3 request
answer_by a k q stamp (StopFreeze real reason behaviour request) = obeyed a k.states q stamp 4 request
answer_by a k q stamp (Acknowledge flag response request) = q
answer_by a k q stamp (ActionRequest request action datums) =
    plain_answer a q stamp (ActionResponse request (action_status a k.states q action) no_datums)
answer_by a k q stamp (ActionResponse request status datums) = q
-- the interval is ignored
answer_by a k q stamp (DataQuery request interval ids) = data_answer a q stamp request (held_records k ids)
-- the values are those after all storing
answer_by a k q stamp (SetData request datums) = data_answer a q stamp request (held_records (result_of datums k) (ids_of datums))
answer_by a k q stamp (DataPdu request datums) = q
answer_by a k q stamp (EventReport event datums) = q
answer_by a k q stamp (Comment datums) = q

abbrev pub answer : AppProfile → Knowledge → Pdu → ℕ → Pdu
answer a k q stamp = answer_by a k q stamp q.body

abbrev pub with_stamp : ℕ → Pdu → Pdu
with_stamp stamp p = record p { stamp = stamp }
