-- Fields of a PDU that decide its role in an exchange: its kind, and the fields of an Acknowledge.
use Rattle.std.specs.Prelude.{Bool, false, Option, Some, None, if◌then◌else◌}
use Rattle.dis_records.specs.declared.kind.Kind.{Kind}
use Rattle.dis_records.specs.declared.kind.Kind.TheVariants as kinds
use Rattle.siman_pdus.specs.declared.message.Acknowledgement.{Acknowledgement}
use Rattle.siman_pdus.specs.declared.pdu.Body.{Body}
use Rattle.siman_pdus.specs.declared.pdu.Body.TheVariants as bodies
use Rattle.siman_pdus.specs.declared.roles.Role.{Role}
use Rattle.siman_pdus.specs.declared.roles.Role.TheVariants as roles
use Rattle.siman_pdus.specs.Role.{is_acknowledge_flag}
use Rattle.siman_pdus.specs.Answers.{acknowledges, is_action_request, asks_for_data}

-- the fields of an Acknowledge; none for every other kind
abbrev pub acknowledgement_of : Body → Option Acknowledgement
acknowledgement_of (bodies.Acknowledge flag response request) = Some (record { flag = flag; response = response; request = request })
acknowledgement_of body = None

-- the role of an Acknowledge with these fields
abbrev pub acknowledge_role : Option Acknowledgement → Role
acknowledge_role (Some said) = if is_acknowledge_flag said.flag then roles.Answer else roles.Outside
acknowledge_role None = roles.Outside

-- the role of a PDU of a kind; `said` has the fields of an Acknowledge
abbrev pub role_by : Kind → Option Acknowledgement → Role
role_by kinds.CreateEntity said = roles.Request
role_by kinds.RemoveEntity said = roles.Request
role_by kinds.StartResume said = roles.Request
role_by kinds.StopFreeze said = roles.Request
role_by kinds.Acknowledge said = acknowledge_role said
role_by kinds.ActionRequest said = roles.Request
role_by kinds.ActionResponse said = roles.Answer
role_by kinds.DataQuery said = roles.Request
role_by kinds.SetData said = roles.Request
role_by kinds.DataPdu said = roles.Answer
role_by kinds.EventReport said = roles.Notice
role_by kinds.Comment said = roles.Notice

abbrev pub acknowledges_by : Option Acknowledgement → Kind → Bool
acknowledges_by (Some said) kind = acknowledges said.flag kind
acknowledges_by None kind = false

-- a PDU of the first kind answers a request of the second; `said` has the fields of an Acknowledge
abbrev pub matches_by : Kind → Option Acknowledgement → Kind → Bool
matches_by kinds.Acknowledge said kind = acknowledges_by said kind
matches_by kinds.ActionResponse said kind = is_action_request kind
matches_by kinds.DataPdu said kind = asks_for_data kind
matches_by other said kind = false
