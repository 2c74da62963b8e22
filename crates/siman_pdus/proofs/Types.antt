-- What the types of a PDU say of its numbers: what owning or lending a value tells of it.
use Rattle.std.proofs.Common.{subst}
use mir.Syntax.{w8, w16, w32}
use denote.Builtin.{u8, u32}
use denote.RattleType.{RattleType}
use denote.Struct.Struct.{Struct}
use denote.Struct.Declared.{shape}
use denote.Enum.Enum.{Enum}
use denote.Enum.Declared as data_of
use denote.Known.{Known, nothing_known, uint_known, struct_known, declared_known, enum_known, view_known}
use Rattle.std.specs.formers.vec.Vec as vec
use Rattle.std.specs.contracts.vec.Vec as Vec
use Rattle.std.specs.contracts.alloc.Global as Global
use Rattle.std.specs.contracts.impls.GlobalAllocator.TheImpl as allocator
use Rattle.dis_records.specs.contracts.clock_time.ClockTime as ClockTime
use Rattle.dis_records.specs.contracts.datum.FixedDatum as FixedDatum
use Rattle.dis_records.specs.contracts.datum.VariableDatum as VariableDatum
use Rattle.dis_records.specs.contracts.datum.VariableDatum.TheInside as variable_inside
use Rattle.dis_records.specs.contracts.entity.EntityId as EntityId
use Rattle.dis_records.specs.contracts.header.Version as Version
use Rattle.dis_records.specs.Datum.{Datum}
use Rattle.siman_pdus.specs.contracts.datums.Datums as Datums
use Rattle.siman_pdus.specs.contracts.datums.Datums.TheInside as datums_inside
use Rattle.siman_pdus.specs.contracts.datums.DatumIds as DatumIds
use Rattle.siman_pdus.specs.contracts.datums.DatumIds.TheInside as ids_inside
use Rattle.siman_pdus.specs.contracts.pdu.Body as Body
use Rattle.siman_pdus.specs.contracts.pdu.Pdu as Pdu
use Rattle.siman_pdus.specs.DatumLists.{DatumLists, IdLists}
use Rattle.siman_pdus.specs.declared.pdu.Body.{Body as BodyValue}
use Rattle.siman_pdus.specs.declared.pdu.Body.TheVariants.{CreateEntity, RemoveEntity, StartResume, StopFreeze, Acknowledge, ActionRequest, ActionResponse, DataQuery, SetData, DataPdu, EventReport, Comment}
use Rattle.siman_pdus.specs.declared.pdu.Pdu.{Pdu as PduValue}
use Rattle.siman_pdus.specs.Ranges.{IsVariableInRange, AreDatumsInRange, AreIdsInRange, IsBodyInRange, IsInRange}

-- of the elements of a vector
abbrev each : (R : RattleType) → Known R → Known (Vec.the_row R Global.the_row allocator.ghosts)
each R known = vec.the_facts R Global.the_row allocator.ghosts known (nothing_known Global.the_row)

abbrev fixed : Known FixedDatum.the_row
fixed = declared_known FixedDatum.the_type (uint_known w32, (uint_known w32, tt))

abbrev variable_fields : Known variable_inside.the_row
variable_fields = declared_known variable_inside.the_type (uint_known w32, (uint_known w32, (each u8 (uint_known w8), tt)))

abbrev variable : Known VariableDatum.the_row
variable = view_known variable_inside.the_row variable_fields _ _ VariableDatum.the_view VariableDatum.the_invariant

abbrev datums_fields : Known datums_inside.the_row
datums_fields = declared_known datums_inside.the_type (each FixedDatum.the_row fixed, (each VariableDatum.the_row variable, tt))

abbrev pub datums : Known Datums.the_row
datums = view_known datums_inside.the_row datums_fields _ _ Datums.the_view Datums.the_invariant

abbrev ids_fields : Known ids_inside.the_row
ids_fields = declared_known ids_inside.the_type (each u32 (uint_known w32), (each u32 (uint_known w32), tt))

abbrev ids : Known DatumIds.the_row
ids = view_known ids_inside.the_row ids_fields _ _ DatumIds.the_view DatumIds.the_invariant

abbrev time : Known (Struct (shape ClockTime.the_type))
time = struct_known (shape ClockTime.the_type) (uint_known w32, (uint_known w32, tt))

abbrev entity : Known (Struct (shape EntityId.the_type))
entity = struct_known (shape EntityId.the_type) (uint_known w16, (uint_known w16, (uint_known w16, tt)))

abbrev version : Known (Enum (data_of.shape Version.the_type))
version = enum_known (data_of.shape Version.the_type) (tt, (tt, tt))

abbrev body : Known (Enum (data_of.shape Body.the_type))
body = enum_known (data_of.shape Body.the_type) (
  (uint_known w32, tt),
  (
    (uint_known w32, tt),
    (
      (time, (time, (uint_known w32, tt))),
      (
        (time, (uint_known w8, (uint_known w8, (uint_known w32, tt)))),
        (
          (uint_known w16, (uint_known w16, (uint_known w32, tt))),
          (
            (uint_known w32, (uint_known w32, (datums, tt))),
            (
              (uint_known w32, (uint_known w32, (datums, tt))),
              (
                (uint_known w32, (uint_known w32, (ids, tt))),
                ((uint_known w32, (datums, tt)), ((uint_known w32, (datums, tt)), ((uint_known w32, (datums, tt)), ((datums, tt), tt)))),
              ),
            ),
          ),
        ),
      ),
    ),
  ),
)

abbrev pub pdu : Known Pdu.the_row
pdu = declared_known Pdu.the_type (version, (uint_known w8, (uint_known w32, (uint_known w8, (entity, (entity, (body, tt)))))))

variable_says : (d : Datum) → variable.Fact d → IsVariableInRange d
variable_says d f = subst IsVariableInRange f.1.0 (record { id = f.2.0; bits = f.2.1.0; bytes = f.2.1.1.0; value = f.1.1 })

pub datums_say : (d : DatumLists) → datums.Fact d → AreDatumsInRange d
datums_say d f = subst AreDatumsInRange f.1.0 (λ i e lt. (let x = f.2.0 i e lt in (x.0, x.1.0)), λ i e lt. variable_says _ (f.2.1.0 i e lt))

ids_say : (d : IdLists) → ids.Fact d → AreIdsInRange d
ids_say d f = subst AreIdsInRange f.1.0 (f.2.0, f.2.1.0)

body_says : (b : BodyValue) → body.Fact ((Body.the_field).into b) → IsBodyInRange b
body_says (CreateEntity request) f = f.0
body_says (RemoveEntity request) f = f.0
body_says (StartResume real sim request) f = ((f.0.0, f.0.1.0), (f.1.0.0, f.1.0.1.0), f.1.1.0)
body_says (StopFreeze real reason behaviour request) f = ((f.0.0, f.0.1.0), f.1.0, f.1.1.0, f.1.1.1.0)
body_says (Acknowledge flag response request) f = (f.0, f.1.0, f.1.1.0)
body_says (ActionRequest request action d) f = (f.0, f.1.0, datums_say d f.1.1.0)
body_says (ActionResponse request status d) f = (f.0, f.1.0, datums_say d f.1.1.0)
body_says (DataQuery request interval d) f = (f.0, f.1.0, ids_say d f.1.1.0)
body_says (SetData request d) f = (f.0, datums_say d f.1.0)
body_says (DataPdu request d) f = (f.0, datums_say d f.1.0)
body_says (EventReport event d) f = (f.0, datums_say d f.1.0)
body_says (Comment d) f = datums_say d f.0

pub pdu_says : (p : PduValue) → pdu.Fact p → IsInRange p
pdu_says p f =
    let numbers = f.1 in
    let origin = numbers.1.1.1.0 in
    let target = numbers.1.1.1.1.0 in
    record {
      exercise = numbers.0;
      stamp = numbers.1.0;
      status = numbers.1.1.0;
      origin = (origin.0, origin.1.0, origin.1.1.0);
      target = (target.0, target.1.0, target.1.1.0);
      body = body_says p.body numbers.1.1.1.1.1.0;
    }
