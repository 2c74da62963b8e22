-- Printed texts of records: identifiers, times, kinds, states and the refusals of a header (profile).
use Rattle.std.specs.Prelude.{ℕ, List, ◌++◌, codes, decimal}
use Rattle.dis_records.specs.declared.clock_time.ClockTime.{ClockTime}
use Rattle.dis_records.specs.declared.entity.EntityId.{EntityId}
use Rattle.dis_records.specs.declared.entity_state.EntityState.{EntityState}
use Rattle.dis_records.specs.declared.entity_state.EntityState.TheVariants as states
use Rattle.dis_records.specs.declared.header.HeaderFault.{HeaderFault}
use Rattle.dis_records.specs.declared.header.HeaderFault.TheVariants as faults
use Rattle.dis_records.specs.declared.kind.Kind.{Kind}
use Rattle.dis_records.specs.declared.kind.Kind.TheVariants as kinds

-- an entity identifier: site:application:entity
abbrev pub entity_text : EntityId → List ℕ
entity_text id = decimal id.site ++ codes ":" ++ decimal id.application ++ codes ":" ++ decimal id.entity

-- a clock time: hour/past
abbrev pub clock_text : ClockTime → List ℕ
clock_text time = decimal time.hour ++ codes "/" ++ decimal time.past

-- name of a kind of PDU
abbrev pub kind_text : Kind → List ℕ
kind_text kinds.CreateEntity = codes "create-entity"
kind_text kinds.RemoveEntity = codes "remove-entity"
kind_text kinds.StartResume = codes "start-resume"
kind_text kinds.StopFreeze = codes "stop-freeze"
kind_text kinds.Acknowledge = codes "acknowledge"
kind_text kinds.ActionRequest = codes "action-request"
kind_text kinds.ActionResponse = codes "action-response"
kind_text kinds.DataQuery = codes "data-query"
kind_text kinds.SetData = codes "set-data"
kind_text kinds.DataPdu = codes "data"
kind_text kinds.EventReport = codes "event-report"
kind_text kinds.Comment = codes "comment"

-- name of a state
abbrev pub state_text : EntityState → List ℕ
state_text states.Absent = codes "absent"
state_text states.Stopped = codes "stopped"
state_text states.Running = codes "running"

-- name of a refusal of a header, with the bad number
abbrev pub header_fault_text : HeaderFault → List ℕ
header_fault_text faults.Truncated = codes "truncated"
header_fault_text (faults.Version version) = codes "version " ++ decimal version
header_fault_text (faults.Family family) = codes "family " ++ decimal family
header_fault_text (faults.Kind kind) = codes "kind " ++ decimal kind
header_fault_text faults.Long = codes "long"
header_fault_text (faults.LengthField field) = codes "length-field " ++ decimal field
