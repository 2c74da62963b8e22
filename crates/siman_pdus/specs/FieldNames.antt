-- The names of numbers: acknowledge flags, response flags, request statuses and reasons (SISO-REF-010; IEEE 1278.1-2012, 7.5).
use Rattle.std.specs.Prelude.{ℕ, List, ◌==◌, codes, Option, Some, None, if◌then◌else◌}
use Rattle.dis_records.specs.declared.kind.Kind.TheVariants as kinds
use Rattle.dis_records.specs.Texts.{kind_text}
use Rattle.siman_pdus.specs.declared.acknowledge_flag.AcknowledgeFlag.{AcknowledgeFlag}
use Rattle.siman_pdus.specs.declared.acknowledge_flag.AcknowledgeFlag.TheVariants as flags
use Rattle.siman_pdus.specs.declared.response_flag.ResponseFlag.{ResponseFlag}
use Rattle.siman_pdus.specs.declared.response_flag.ResponseFlag.TheVariants as responses
use Rattle.siman_pdus.specs.declared.request_status.RequestStatus.{RequestStatus}
use Rattle.siman_pdus.specs.declared.request_status.RequestStatus.TheVariants as statuses
use Rattle.siman_pdus.specs.declared.stop_reason.StopReason.{StopReason}
use Rattle.siman_pdus.specs.declared.stop_reason.StopReason.TheVariants as reasons

-- ---- acknowledge flags: the kind of request that is acknowledged

abbrev pub flag_of : ℕ → Option AcknowledgeFlag
flag_of n =
    if n == 1 then Some flags.CreateEntity
    else (if n == 2 then Some flags.RemoveEntity
    else (if n == 3 then Some flags.StartResume
    else (if n == 4 then Some flags.StopFreeze
    else None)))

abbrev pub flag_text : AcknowledgeFlag → List ℕ
flag_text flags.CreateEntity = kind_text kinds.CreateEntity
flag_text flags.RemoveEntity = kind_text kinds.RemoveEntity
flag_text flags.StartResume = kind_text kinds.StartResume
flag_text flags.StopFreeze = kind_text kinds.StopFreeze

-- ---- response flags: the answer of an Acknowledge

abbrev pub response_of : ℕ → Option ResponseFlag
response_of n =
    if n == 0 then Some responses.Other
    else (if n == 1 then Some responses.Able
    else (if n == 2 then Some responses.Unable
    else (if n == 3 then Some responses.Pending
    else None)))

abbrev pub response_text : ResponseFlag → List ℕ
response_text responses.Other = codes "other"
response_text responses.Able = codes "able"
response_text responses.Unable = codes "unable"
response_text responses.Pending = codes "pending"

-- ---- request statuses: the answer of an Action Response

abbrev pub status_of : ℕ → Option RequestStatus
status_of n =
    if n == 0 then Some statuses.Other
    else (if n == 1 then Some statuses.Pending
    else (if n == 2 then Some statuses.Executing
    else (if n == 3 then Some statuses.PartiallyComplete
    else (if n == 4 then Some statuses.Complete
    else (if n == 5 then Some statuses.Rejected
    else None)))))

abbrev pub status_text : RequestStatus → List ℕ
status_text statuses.Other = codes "other"
status_text statuses.Pending = codes "pending"
status_text statuses.Executing = codes "executing"
status_text statuses.PartiallyComplete = codes "partially-complete"
status_text statuses.Complete = codes "complete"
status_text statuses.Rejected = codes "rejected"

-- ---- reasons: why a Stop/Freeze stops

abbrev pub reason_of : ℕ → Option StopReason
reason_of n =
    if n == 0 then Some reasons.Other
    else (if n == 1 then Some reasons.Recess
    else (if n == 2 then Some reasons.Termination
    else (if n == 3 then Some reasons.SystemFailure
    else (if n == 4 then Some reasons.SecurityViolation
    else None))))

abbrev pub reason_text : StopReason → List ℕ
reason_text reasons.Other = codes "other"
reason_text reasons.Recess = codes "recess"
reason_text reasons.Termination = codes "termination"
reason_text reasons.SystemFailure = codes "system-failure"
reason_text reasons.SecurityViolation = codes "security-violation"
