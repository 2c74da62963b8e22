-- Fields of a datagram by offset, and which datagrams are accepted.
use Rattle.std.specs.Prelude.{ℕ, ◌-◌, List, length, map, Option, Some, None, Result, Ok, Err, slice_set}
use Rattle.std.specs.Int.{w8, w16, w32}
use Rattle.dis_records.specs.declared.kind.Kind.{Kind}
use Rattle.dis_records.specs.declared.kind.Kind.TheVariants as kinds
use Rattle.dis_records.specs.declared.header.Header.{Header}
use Rattle.dis_records.specs.declared.header.HeaderFault.{HeaderFault}
use Rattle.dis_records.specs.Layout.{spelled_number}
use Rattle.dis_records.specs.Header.{header_at, header_refusal}
use Rattle.dis_records.specs.Entity.{entity_at}
use Rattle.dis_records.specs.ClockTime.{clock_time_at}
use Rattle.dis_records.specs.Datum.{canonical}
use Rattle.dis_records.specs.Views.{ShownDatums, ShownIds, shown_datums, shown_ids}
use Rattle.siman_pdus.specs.DatumLists.{DatumLists, IdLists}
use Rattle.siman_pdus.specs.declared.fault.PduFault.{PduFault}
use Rattle.siman_pdus.specs.declared.fault.PduFault.TheVariants as faults
use Rattle.siman_pdus.specs.declared.fault.ViewFault.{ViewFault}
use Rattle.siman_pdus.specs.declared.fault.ViewFault.TheVariants as view_faults
use Rattle.siman_pdus.specs.declared.pdu.Body.{Body}
use Rattle.siman_pdus.specs.declared.pdu.Body.TheVariants.{CreateEntity, RemoveEntity, StartResume, StopFreeze, Acknowledge, ActionRequest, ActionResponse, DataQuery, SetData, DataPdu, EventReport, Comment}
use Rattle.siman_pdus.specs.declared.pdu.Pdu.{Pdu}
use Rattle.siman_pdus.specs.declared.views.BodyView.{BodyView}
use Rattle.siman_pdus.specs.declared.views.BodyView.TheVariants as views
use Rattle.siman_pdus.specs.declared.views.PduView.{PduView}
use Rattle.siman_pdus.specs.Shape.{body_refusal}

-- the datums of a view, the unused bits of their values zero
abbrev pub datums_of : ShownDatums → DatumLists
datums_of d = record { fixed = d.fixed; variable = map canonical d.variable }

-- the identifiers of a view
abbrev pub ids_of : ShownIds → IdLists
ids_of d = record { fixed = d.fixed; variable = d.variable }

-- the datums whose two counts are at an offset, the unused bits of their values zero
abbrev pub datums_at : ℕ → List ℕ → DatumLists
datums_at counts b = datums_of (shown_datums counts b)

-- the identifiers whose two counts are at an offset
abbrev pub id_lists_at : ℕ → List ℕ → IdLists
id_lists_at counts b = ids_of (shown_ids counts b)

-- the body of a kind in a datagram, in place
unfoldable pub shown_body : Kind → List ℕ → BodyView
shown_body kinds.CreateEntity b = views.CreateEntity (spelled_number w32 24 b)
shown_body kinds.RemoveEntity b = views.RemoveEntity (spelled_number w32 24 b)
shown_body kinds.StartResume b = views.StartResume (clock_time_at 24 b) (clock_time_at 32 b) (spelled_number w32 40 b)
shown_body kinds.StopFreeze b = views.StopFreeze (clock_time_at 24 b) (spelled_number w8 32 b) (spelled_number w8 33 b) (spelled_number w32 36 b)
shown_body kinds.Acknowledge b = views.Acknowledge (spelled_number w16 24 b) (spelled_number w16 26 b) (spelled_number w32 28 b)
shown_body kinds.ActionRequest b = views.ActionRequest (spelled_number w32 24 b) (spelled_number w32 28 b) (shown_datums 32 b)
shown_body kinds.ActionResponse b = views.ActionResponse (spelled_number w32 24 b) (spelled_number w32 28 b) (shown_datums 32 b)
shown_body kinds.DataQuery b = views.DataQuery (spelled_number w32 24 b) (spelled_number w32 28 b) (shown_ids 32 b)
shown_body kinds.SetData b = views.SetData (spelled_number w32 24 b) (shown_datums 32 b)
shown_body kinds.DataPdu b = views.DataPdu (spelled_number w32 24 b) (shown_datums 32 b)
shown_body kinds.EventReport b = views.EventReport (spelled_number w32 24 b) (shown_datums 32 b)
shown_body kinds.Comment b = views.Comment (shown_datums 24 b)

-- the body of a view
abbrev pub body_of : BodyView → Body
body_of (views.CreateEntity request) = CreateEntity request
body_of (views.RemoveEntity request) = RemoveEntity request
body_of (views.StartResume real sim request) = StartResume real sim request
body_of (views.StopFreeze real reason behaviour request) = StopFreeze real reason behaviour request
body_of (views.Acknowledge flag response request) = Acknowledge flag response request
body_of (views.ActionRequest request action datums) = ActionRequest request action (datums_of datums)
body_of (views.ActionResponse request status datums) = ActionResponse request status (datums_of datums)
body_of (views.DataQuery request interval ids) = DataQuery request interval (ids_of ids)
body_of (views.SetData request datums) = SetData request (datums_of datums)
body_of (views.DataPdu request datums) = DataPdu request (datums_of datums)
body_of (views.EventReport event datums) = EventReport event (datums_of datums)
body_of (views.Comment datums) = Comment (datums_of datums)

-- the body of a kind in a datagram
abbrev pub body_at : Kind → List ℕ → Body
body_at kind b = body_of (shown_body kind b)

-- the PDU of a view
abbrev pub pdu_of : PduView → Pdu
pdu_of v = record {
  version = v.version;
  exercise = v.exercise;
  stamp = v.stamp;
  status = v.status;
  origin = v.origin;
  target = v.target;
  body = body_of v.body;
}

-- the view of a datagram with this header
abbrev pub view_from : Header → List ℕ → PduView
view_from header b = record {
  version = header.version;
  exercise = header.exercise;
  stamp = header.stamp;
  status = header.status;
  origin = entity_at 12 b;
  target = entity_at 18 b;
  body = shown_body header.kind b;
}

abbrev pub pdu_from : Header → List ℕ → Pdu
pdu_from header b = record {
  version = header.version;
  exercise = header.exercise;
  stamp = header.stamp;
  status = header.status;
  origin = entity_at 12 b;
  target = entity_at 18 b;
  body = body_at header.kind b;
}

abbrev pub first_refusal : Option HeaderFault → Option ViewFault → Option ViewFault
first_refusal (Some fault) body = Some (view_faults.Header fault)
first_refusal None body = body

-- the first refusal of a datagram that holds: of the header, or else of the body
abbrev pub view_refusal : List ℕ → Option ViewFault
view_refusal b = first_refusal (header_refusal b) (body_refusal (header_at b).kind b)

-- a refusal as a fault of decoding
abbrev pub pdu_fault : ViewFault → PduFault
pdu_fault (view_faults.Header fault) = faults.Header fault
pdu_fault (view_faults.BodyShort offset) = faults.BodyShort offset
pdu_fault (view_faults.BodyLong offset) = faults.BodyLong offset

abbrev pub pdu_refusal : Option ViewFault → Option PduFault
pdu_refusal None = None
pdu_refusal (Some fault) = Some (pdu_fault fault)

-- the first refusal of a datagram that holds, as a fault of decoding
abbrev pub refusal_of : List ℕ → Option PduFault
refusal_of b = pdu_refusal (view_refusal b)

abbrev pub unless_refused : Option PduFault → Pdu → Option Pdu
unless_refused (Some fault) p = None
unless_refused None p = Some p

-- the reading of a datagram: the PDU of the fields at its offsets, or none if it is refused
abbrev pub reading : List ℕ → Option Pdu
reading b = unless_refused (refusal_of b) (pdu_from (header_at b) b)

-- the PDU of a view, or none if the datagram was refused
abbrev pub viewed : Result PduView ViewFault → Option Pdu
viewed (Ok v) = Some (pdu_of v)
viewed (Err fault) = None

-- bytes with the last byte replaced, if one is given
abbrev pub with_last : Option ℕ → List ℕ → List ℕ
with_last None bytes = bytes
with_last (Some last) bytes = slice_set bytes (length bytes - 1) last
