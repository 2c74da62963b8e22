-- The ranges of the numbers of a PDU: each is one that its field can carry (IEEE 1278.1-2012, 7.5.2 to 7.5.13, over the records of 6.2).
use Rattle.std.specs.Prelude.{◌<◌, ◌^◌, All}
use Rattle.dis_records.specs.declared.clock_time.ClockTime.{ClockTime}
use Rattle.dis_records.specs.declared.datum.FixedDatum.{FixedDatum}
use Rattle.dis_records.specs.declared.entity.EntityId.{EntityId}
use Rattle.dis_records.specs.Datum.{Datum, IsDatum}
use Rattle.siman_pdus.specs.DatumLists.{DatumLists, IdLists}
use Rattle.siman_pdus.specs.declared.pdu.Body.{Body}
use Rattle.siman_pdus.specs.declared.pdu.Body.TheVariants.{CreateEntity, RemoveEntity, StartResume, StopFreeze, Acknowledge, ActionRequest, ActionResponse, DataQuery, SetData, DataPdu, EventReport, Comment}
use Rattle.siman_pdus.specs.declared.pdu.Pdu.{Pdu}

-- entity identifier (6.2.28): site, application and entity number, of 16 bits each
abbrev pub IsEntityIdInRange : EntityId → Type 0
IsEntityIdInRange id = (id.site < 2 ^ 16) × (id.application < 2 ^ 16) × (id.entity < 2 ^ 16)

-- clock time (6.2.14): hours and time past the hour, of 32 bits each
abbrev pub IsTimeInRange : ClockTime → Type 0
IsTimeInRange t = (t.hour < 2 ^ 32) × (t.past < 2 ^ 32)

-- fixed datum (6.2.37): identifier and value, of 32 bits each
abbrev pub IsFixedInRange : FixedDatum → Type 0
IsFixedInRange d = (d.id < 2 ^ 32) × (d.value < 2 ^ 32)

-- variable datum (6.2.93): identifier and number of bits, of 32 bits each, and a value with this number of bits in
-- bytes
pub record IsVariableInRange (d : Datum) : Type 0 where
  pub id : d.id < 2 ^ 32
  pub bits : d.bits < 2 ^ 32
  pub bytes : All (λ byte. byte < 2 ^ 8) d.bytes
  pub value : IsDatum d

-- datum specification (6.2.18); its counts follow from the size of the PDU
abbrev pub AreDatumsInRange : DatumLists → Type 0
AreDatumsInRange d = All IsFixedInRange d.fixed × All IsVariableInRange d.variable

-- the identifiers of a query (6.2.17), of 32 bits each
abbrev pub AreIdsInRange : IdLists → Type 0
AreIdsInRange d = All (λ id. id < 2 ^ 32) d.fixed × All (λ id. id < 2 ^ 32) d.variable

abbrev pub IsBodyInRange : Body → Type 0
-- request identifier
IsBodyInRange (CreateEntity request) = request < 2 ^ 32
-- request identifier
IsBodyInRange (RemoveEntity request) = request < 2 ^ 32
-- real-world time, simulation time, request identifier
IsBodyInRange (StartResume real sim request) = IsTimeInRange real × IsTimeInRange sim × (request < 2 ^ 32)
-- real-world time, reason, frozen behaviour, request identifier
IsBodyInRange (StopFreeze real reason behaviour request) = IsTimeInRange real × (reason < 2 ^ 8) × (behaviour < 2 ^ 8) × (request < 2 ^ 32)
-- acknowledge flag, response flag, request identifier
IsBodyInRange (Acknowledge flag response request) = (flag < 2 ^ 16) × (response < 2 ^ 16) × (request < 2 ^ 32)
-- request identifier, action identifier, datums
IsBodyInRange (ActionRequest request action datums) = (request < 2 ^ 32) × (action < 2 ^ 32) × AreDatumsInRange datums
-- request identifier, request status, datums
IsBodyInRange (ActionResponse request status datums) = (request < 2 ^ 32) × (status < 2 ^ 32) × AreDatumsInRange datums
-- request identifier, time interval, queried identifiers
IsBodyInRange (DataQuery request interval ids) = (request < 2 ^ 32) × (interval < 2 ^ 32) × AreIdsInRange ids
-- request identifier, datums
IsBodyInRange (SetData request datums) = (request < 2 ^ 32) × AreDatumsInRange datums
-- request identifier, datums
IsBodyInRange (DataPdu request datums) = (request < 2 ^ 32) × AreDatumsInRange datums
-- event type, datums
IsBodyInRange (EventReport event datums) = (event < 2 ^ 32) × AreDatumsInRange datums
-- datums
IsBodyInRange (Comment datums) = AreDatumsInRange datums

-- EVERY NUMBER OF THE PDU IS IN THE RANGE OF ITS FIELD: those of the header (6.2.66), of the two identifiers and of the body.
pub record IsInRange (p : Pdu) : Type 0 where
  pub exercise : p.exercise < 2 ^ 8
  pub stamp : p.stamp < 2 ^ 32
  pub status : p.status < 2 ^ 8
  pub origin : IsEntityIdInRange p.origin
  pub target : IsEntityIdInRange p.target
  pub body : IsBodyInRange p.body
