-- The grammar: which bytes spell a PDU. Each layout is in the order and the words of the standard (IEEE 1278.1-2012, 7.5.2 to 7.5.13).
use Rattle.std.specs.Prelude.{◌≡◌, ℕ, ◌≤◌, List, [], ◌∷◌, ◌++◌, length}
use Rattle.std.specs.Int.{w16, w32}
use Rattle.dis_records.specs.declared.header.TheConstants.{LARGEST_DATAGRAM}
use Rattle.dis_records.specs.declared.kind.Kind.{Kind}
use Rattle.dis_records.specs.declared.kind.Kind.TheVariants as kinds
use Rattle.dis_records.specs.declared.header.Header.{Header}
use Rattle.dis_records.specs.declared.datum.FixedDatum.{FixedDatum}
use Rattle.dis_records.specs.Layout.{Field, Byte, Number, Padding, size, text, Spell}
use Rattle.dis_records.specs.Header.{header_layout, carried_status}
use Rattle.dis_records.specs.Entity.{entity_layout}
use Rattle.dis_records.specs.ClockTime.{clock_time_layout}
use Rattle.dis_records.specs.Datum.{Datum, fixed_layouts, variable_layouts, id_layouts}
use Rattle.siman_pdus.specs.DatumLists.{DatumLists, IdLists}
use Rattle.siman_pdus.specs.declared.pdu.Body.{Body}
use Rattle.siman_pdus.specs.declared.pdu.Body.TheVariants.{CreateEntity, RemoveEntity, StartResume, StopFreeze, Acknowledge, ActionRequest, ActionResponse, DataQuery, SetData, DataPdu, EventReport, Comment}
use Rattle.siman_pdus.specs.declared.pdu.Pdu.{Pdu}

-- number of fixed datum records, number of variable datum records, the fixed records, the variable records
abbrev pub records_layout : List FixedDatum → List Datum → List Field
records_layout fixed variable = Number w32 (length fixed) ∷ Number w32 (length variable) ∷ fixed_layouts fixed ++ variable_layouts variable

abbrev pub datums_layout : DatumLists → List Field
datums_layout d = records_layout d.fixed d.variable

-- number of fixed datums, number of variable datums, their identifiers
abbrev pub id_lists_layout : List ℕ → List ℕ → List Field
id_lists_layout fixed variable = Number w32 (length fixed) ∷ Number w32 (length variable) ∷ id_layouts fixed ++ id_layouts variable

abbrev pub ids_layout : IdLists → List Field
ids_layout d = id_lists_layout d.fixed d.variable

abbrev pub body_kind : Body → Kind
body_kind (CreateEntity request) = kinds.CreateEntity
body_kind (RemoveEntity request) = kinds.RemoveEntity
body_kind (StartResume real sim request) = kinds.StartResume
body_kind (StopFreeze real reason behaviour request) = kinds.StopFreeze
body_kind (Acknowledge flag response request) = kinds.Acknowledge
body_kind (ActionRequest request action datums) = kinds.ActionRequest
body_kind (ActionResponse request status datums) = kinds.ActionResponse
body_kind (DataQuery request interval ids) = kinds.DataQuery
body_kind (SetData request datums) = kinds.SetData
body_kind (DataPdu request datums) = kinds.DataPdu
body_kind (EventReport event datums) = kinds.EventReport
body_kind (Comment datums) = kinds.Comment

abbrev pub body_layout : Body → List Field
-- request identifier
body_layout (CreateEntity request) = Number w32 request ∷ []
-- request identifier
body_layout (RemoveEntity request) = Number w32 request ∷ []
-- real-world time, simulation time, request identifier
body_layout (StartResume real sim request) = clock_time_layout real ++ clock_time_layout sim ++ (Number w32 request ∷ [])
-- real-world time, reason, frozen behaviour, padding, request identifier
body_layout (StopFreeze real reason behaviour request) =
    clock_time_layout real ++ (Byte reason ∷ Byte behaviour ∷ Padding 2 ∷ Number w32 request ∷ [])
-- acknowledge flag, response flag, request identifier
body_layout (Acknowledge flag response request) = Number w16 flag ∷ Number w16 response ∷ Number w32 request ∷ []
-- request identifier, action identifier, datums
body_layout (ActionRequest request action datums) = Number w32 request ∷ Number w32 action ∷ datums_layout datums
-- request identifier, request status, datums
body_layout (ActionResponse request status datums) = Number w32 request ∷ Number w32 status ∷ datums_layout datums
-- request identifier, time interval, queried identifiers
body_layout (DataQuery request interval ids) = Number w32 request ∷ Number w32 interval ∷ ids_layout ids
-- request identifier, padding, datums
body_layout (SetData request datums) = Number w32 request ∷ Padding 4 ∷ datums_layout datums
-- request identifier, padding, datums
body_layout (DataPdu request datums) = Number w32 request ∷ Padding 4 ∷ datums_layout datums
-- event type, padding, datums
body_layout (EventReport event datums) = Number w32 event ∷ Padding 4 ∷ datums_layout datums
-- datums
body_layout (Comment datums) = datums_layout datums

-- the header of a PDU in a datagram of n bytes
abbrev pub header_of : Pdu → ℕ → Header
header_of p n = record { version = p.version; exercise = p.exercise; kind = body_kind p.body; stamp = p.stamp; length = n; status = p.status }

-- header, originating identifier, receiving identifier, body
abbrev pub pdu_layout : Pdu → ℕ → List Field
pdu_layout p n = header_layout (header_of p n) ++ entity_layout p.origin ++ entity_layout p.target ++ body_layout p.body

-- The status is one that a header of the version carries: any if it has one, and otherwise 0.
abbrev pub HasCarriedStatus : Pdu → Type 0
HasCarriedStatus p = p.status ≡ carried_status p.version p.status

-- b is a datagram of at most 8192 bytes that spells p, with its own length in the header; the status is 0 if the
-- version has none.
pub record Spells (p : Pdu) (b : List ℕ) : Type 0 where
  pub spell : Spell (pdu_layout p (length b)) b
  pub status_is : HasCarriedStatus p
  pub limit : length b ≤ LARGEST_DATAGRAM

-- number of bytes of each spelling of p
abbrev pub pdu_size : Pdu → ℕ
pdu_size p = size (pdu_layout p 0)

-- p as a datagram carries it: with status 0 if its version has none
abbrev pub carried : Pdu → Pdu
carried p = record p { status = carried_status p.version p.status }

-- the canonical text of p: the spelling of `carried p` with zero padding
abbrev pub pdu_text : Pdu → List ℕ
pdu_text p = text (pdu_layout p (pdu_size p))
