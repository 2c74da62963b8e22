-- Equality of bodies and of requests, field by field.
use Rattle.std.specs.Prelude.{◌≡◌, Bool, false, ◌&&◌, ◌==◌}
use Rattle.dis_records.specs.declared.clock_time.ClockTime.{ClockTime}
use Rattle.dis_records.specs.declared.entity.EntityId.{EntityId}
use Rattle.dis_records.specs.Header.{same_version}
use Rattle.siman_pdus.specs.declared.pdu.Body.{Body}
use Rattle.siman_pdus.specs.declared.pdu.Body.TheVariants.{CreateEntity, RemoveEntity, StartResume, StopFreeze, Acknowledge, ActionRequest, ActionResponse, DataQuery, SetData, DataPdu, EventReport, Comment}
use Rattle.siman_pdus.specs.declared.pdu.Pdu.{Pdu}
use Rattle.siman_pdus.specs.DatumLists.{same_datums, same_ids}

abbrev pub same_time : ClockTime → ClockTime → Bool
same_time t u = (t.hour == u.hour) && (t.past == u.past)

abbrev pub same_entity : EntityId → EntityId → Bool
same_entity i j = (i.site == j.site) && ((i.application == j.application) && (i.entity == j.entity))

-- equal cases with equal fields
abbrev pub same_body : Body → Body → Bool
same_body (CreateEntity request) (CreateEntity request') = request == request'
same_body (RemoveEntity request) (RemoveEntity request') = request == request'
same_body (StartResume real sim request) (StartResume real' sim' request') = same_time real real' && (same_time sim sim' && (request == request'))
same_body (StopFreeze real reason behaviour request) (StopFreeze real' reason' behaviour' request') =
    same_time real real' && ((reason == reason') && ((behaviour == behaviour') && (request == request')))
same_body (Acknowledge flag response request) (Acknowledge flag' response' request') =
    (flag == flag') && ((response == response') && (request == request'))
same_body (ActionRequest request action datums) (ActionRequest request' action' datums') =
    (request == request') && ((action == action') && same_datums datums datums')
same_body (ActionResponse request status datums) (ActionResponse request' status' datums') =
    (request == request') && ((status == status') && same_datums datums datums')
same_body (DataQuery request interval ids) (DataQuery request' interval' ids') =
    (request == request') && ((interval == interval') && same_ids ids ids')
same_body (SetData request datums) (SetData request' datums') = (request == request') && same_datums datums datums'
same_body (DataPdu request datums) (DataPdu request' datums') = (request == request') && same_datums datums datums'
same_body (EventReport event datums) (EventReport event' datums') = (event == event') && same_datums datums datums'
same_body (Comment datums) (Comment datums') = same_datums datums datums'
same_body body other = false

-- all fields are equal
abbrev pub is_same_pdu : Pdu → Pdu → Bool
is_same_pdu p q =
    same_version p.version q.version && ((p.exercise == q.exercise) && ((p.stamp == q.stamp) && ((p.status == q.status)
    && (same_entity p.origin q.origin && (same_entity p.target q.target && same_body p.body q.body)))))

-- Two PDUs are the same order if they are equal in all but timestamp and status (profile).
abbrev pub IsSameOrder : Pdu → Pdu → Type 0
IsSameOrder p q = p ≡ record q { stamp = p.stamp; status = p.status }

-- the test of `IsSameOrder`, as histories use it
abbrev pub is_same_order : Pdu → Pdu → Bool
is_same_order p q =
    same_version p.version q.version && ((p.exercise == q.exercise)
    && (same_entity p.origin q.origin && (same_entity p.target q.target && same_body p.body q.body)))
