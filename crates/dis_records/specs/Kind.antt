-- The twelve kinds of Simulation Management PDU and their PDU types (IEEE 1278.1-2012, 5.6 and 7.5).
use Rattle.std.specs.Prelude.{ℕ, Bool, ◌&&◌, ◌==◌, nat_le, if◌then◌else◌}
use Rattle.dis_records.specs.declared.kind.Kind.{Kind}
use Rattle.dis_records.specs.declared.kind.Kind.TheVariants as kinds

-- the PDU type of a kind
abbrev pub kind_code : Kind → ℕ
kind_code kinds.CreateEntity = 11
kind_code kinds.RemoveEntity = 12
kind_code kinds.StartResume = 13
kind_code kinds.StopFreeze = 14
kind_code kinds.Acknowledge = 15
kind_code kinds.ActionRequest = 16
kind_code kinds.ActionResponse = 17
kind_code kinds.DataQuery = 18
kind_code kinds.SetData = 19
kind_code kinds.DataPdu = 20
kind_code kinds.EventReport = 21
kind_code kinds.Comment = 22

-- a number that is the PDU type of one of the twelve
abbrev pub is_kind_code : ℕ → Bool
is_kind_code n = nat_le 11 n && nat_le n 22

-- the kind of a PDU type; used only for 11 to 22
unfoldable pub kind_from : ℕ → Kind
kind_from n =
    if n == 11 then kinds.CreateEntity
    else (if n == 12 then kinds.RemoveEntity
    else (if n == 13 then kinds.StartResume
    else (if n == 14 then kinds.StopFreeze
    else (if n == 15 then kinds.Acknowledge
    else (if n == 16 then kinds.ActionRequest
    else (if n == 17 then kinds.ActionResponse
    else (if n == 18 then kinds.DataQuery
    else (if n == 19 then kinds.SetData
    else (if n == 20 then kinds.DataPdu
    else (if n == 21 then kinds.EventReport
    else kinds.Comment))))))))))
