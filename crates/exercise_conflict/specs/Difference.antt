-- The first field in which one PDU differs from another, in the order of a printed row of a PDU (profile, over IEEE 1278.1-2012, 7.5).
use Rattle.std.specs.Prelude.{ℕ, List, ◌==◌, Bool, true, false, Option, Some, None, if◌then◌else◌}
use Rattle.std.specs.Cmp.Lexicographic.{pointwise}
use Rattle.dis_records.specs.declared.datum.FixedDatum.{FixedDatum}
use Rattle.dis_records.specs.Header.{same_version}
use Rattle.dis_records.specs.Kind.{kind_code}
use Rattle.siman_pdus.specs.declared.pdu.Body.{Body}
use Rattle.siman_pdus.specs.declared.pdu.Body.TheVariants.{StartResume, StopFreeze, Acknowledge, ActionRequest, ActionResponse, DataQuery, SetData, DataPdu, EventReport, Comment}
use Rattle.siman_pdus.specs.declared.pdu.Pdu.{Pdu}
use Rattle.siman_pdus.specs.DatumLists.{same_fixed}
use Rattle.siman_pdus.specs.Role.{request_id_of}
use Rattle.siman_pdus.specs.Same.{same_time, same_entity, is_same_order}
use Rattle.siman_pdus.specs.Spelling.{body_kind}
use Rattle.exercise_conflict.specs.declared.field.PduField.{PduField}
use Rattle.exercise_conflict.specs.declared.field.PduField.TheVariants as fields

-- the field if it differs, else the rest
abbrev pub unless_same : Bool → PduField → Option PduField → Option PduField
unless_same same field rest = if same then rest else Some field

-- two request identifiers are equal, or both are absent
abbrev pub same_request : Option ℕ → Option ℕ → Bool
same_request None None = true
same_request (Some id) None = false
same_request None (Some other) = false
same_request (Some id) (Some other) = id == other

-- the first difference in times and in the fields that accompany them
abbrev pub time_difference : Body → Body → Option PduField
time_difference (StartResume real sim request) (StartResume real' sim' request') =
    unless_same (same_time real real') fields.Real (unless_same (same_time sim sim') fields.Sim None)
time_difference (StopFreeze real reason behaviour request) (StopFreeze real' reason' behaviour' request') =
    unless_same (same_time real real') fields.Real (unless_same (reason == reason') fields.Reason (unless_same (behaviour == behaviour') fields.Behaviour None))
time_difference body other = None

-- the first difference in numbers that only one kind has
abbrev pub number_difference : Body → Body → Option PduField
number_difference (Acknowledge flag response request) (Acknowledge flag' response' request') =
    unless_same (flag == flag') fields.Flag (unless_same (response == response') fields.Response None)
number_difference (ActionRequest request action datums) (ActionRequest request' action' datums') = unless_same (action == action') fields.Action None
number_difference (ActionResponse request status datums) (ActionResponse request' status' datums') = unless_same (status == status') fields.Outcome None
number_difference (DataQuery request interval ids) (DataQuery request' interval' ids') = unless_same (interval == interval') fields.Interval None
number_difference (EventReport event datums) (EventReport event' datums') = unless_same (event == event') fields.Event None
number_difference body other = None

-- the fixed datum records of a body, if its kind has them
abbrev pub fixed_datums_of : Body → Option (List FixedDatum)
fixed_datums_of (ActionRequest request action datums) = Some datums.fixed
fixed_datums_of (ActionResponse request status datums) = Some datums.fixed
fixed_datums_of (SetData request datums) = Some datums.fixed
fixed_datums_of (DataPdu request datums) = Some datums.fixed
fixed_datums_of (EventReport event datums) = Some datums.fixed
fixed_datums_of (Comment datums) = Some datums.fixed
fixed_datums_of body = None

-- the fixed datum identifiers that a body queries, if its kind does
abbrev pub fixed_ids_of : Body → Option (List ℕ)
fixed_ids_of (DataQuery request interval ids) = Some ids.fixed
fixed_ids_of body = None

abbrev pub same_datums_if : Option (List FixedDatum) → Option (List FixedDatum) → Bool
same_datums_if (Some d) (Some e) = pointwise same_fixed d e
same_datums_if d e = true

abbrev pub same_ids_if : Option (List ℕ) → Option (List ℕ) → Bool
same_ids_if (Some d) (Some e) = pointwise ◌==◌ d e
same_ids_if d e = true

-- the first difference, else the rest
abbrev pub or_else : Option PduField → Option PduField → Option PduField
or_else (Some field) rest = Some field
or_else None rest = rest

-- the first difference of two bodies of one kind; if no other field differs and the bodies are not equal, it is the variable datum records
abbrev pub body_difference : Body → Body → Bool → Option PduField
body_difference p q same =
    unless_same (same_request (request_id_of p) (request_id_of q)) fields.Request
    (or_else (time_difference p q)
    (or_else (number_difference p q)
    (unless_same (same_datums_if (fixed_datums_of p) (fixed_datums_of q)) fields.Fixed
    (unless_same (same_ids_if (fixed_ids_of p) (fixed_ids_of q)) fields.Fixed
    (unless_same same fields.Variable None)))))

unfoldable pub inner_difference : Pdu → Pdu → Option PduField
inner_difference p q = body_difference p.body q.body (is_same_order p q)

-- THE FIRST DIFFERENCE of two orders: none if they are equal; timestamps and status are ignored
unfoldable pub order_difference : Pdu → Pdu → Option PduField
order_difference p q =
    unless_same (same_version p.version q.version) fields.Version
    (unless_same (kind_code (body_kind p.body) == kind_code (body_kind q.body)) fields.Kind
    (unless_same (same_entity p.origin q.origin) fields.From
    (unless_same (same_entity p.target q.target) fields.To
    (inner_difference p q))))

-- THE FIRST DIFFERENCE of two PDUs, including timestamps and status
unfoldable pub pdu_difference : Pdu → Pdu → Option PduField
pdu_difference p q =
    unless_same (same_version p.version q.version) fields.Version
    (unless_same (p.stamp == q.stamp) fields.Time
    (unless_same (p.status == q.status) fields.Status
    (order_difference p q)))
