-- Role of a PDU in an exchange, and its request identifier (IEEE 1278.1-2012, 5.6).
use Rattle.std.specs.Prelude.{ℕ, Bool, true, false, ◌&&◌, nat_le, Option, Some, None, if◌then◌else◌}
use Rattle.siman_pdus.specs.declared.pdu.Body.{Body}
use Rattle.siman_pdus.specs.declared.pdu.Body.TheVariants.{CreateEntity, RemoveEntity, StartResume, StopFreeze, Acknowledge, ActionRequest, ActionResponse, DataQuery, SetData, DataPdu, EventReport, Comment}
use Rattle.siman_pdus.specs.declared.roles.Role.{Role}
use Rattle.siman_pdus.specs.declared.roles.Role.TheVariants as roles

-- an Acknowledge answers with a flag from 1 to 4; one with another flag is outside the exchanges (profile)
abbrev pub is_acknowledge_flag : ℕ → Bool
is_acknowledge_flag flag = nat_le 1 flag && nat_le flag 4

abbrev pub role_of : Body → Role
role_of (CreateEntity request) = roles.Request
role_of (RemoveEntity request) = roles.Request
role_of (StartResume real sim request) = roles.Request
role_of (StopFreeze real reason behaviour request) = roles.Request
role_of (Acknowledge flag response request) = if is_acknowledge_flag flag then roles.Answer else roles.Outside
role_of (ActionRequest request action datums) = roles.Request
role_of (ActionResponse request status datums) = roles.Answer
role_of (DataQuery request interval ids) = roles.Request
role_of (SetData request datums) = roles.Request
role_of (DataPdu request datums) = roles.Answer
role_of (EventReport event datums) = roles.Notice
role_of (Comment datums) = roles.Notice

abbrev pub is_request_role : Role → Bool
is_request_role roles.Request = true
is_request_role role = false

abbrev pub is_request_body : Body → Bool
is_request_body body = is_request_role (role_of body)

-- all kinds but Event Report and Comment have a request identifier
abbrev pub request_id_of : Body → Option ℕ
request_id_of (CreateEntity request) = Some request
request_id_of (RemoveEntity request) = Some request
request_id_of (StartResume real sim request) = Some request
request_id_of (StopFreeze real reason behaviour request) = Some request
request_id_of (Acknowledge flag response request) = Some request
request_id_of (ActionRequest request action datums) = Some request
request_id_of (ActionResponse request status datums) = Some request
request_id_of (DataQuery request interval ids) = Some request
request_id_of (SetData request datums) = Some request
request_id_of (DataPdu request datums) = Some request
request_id_of (EventReport event datums) = None
request_id_of (Comment datums) = None
