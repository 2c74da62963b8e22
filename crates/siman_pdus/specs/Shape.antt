-- Parts of a body, by the counts and lengths in the datagram, and the first that is missing.
use Rattle.std.specs.Prelude.{◌≡◌, ℕ, ◌+◌, nat_lt, List, [], ◌∷◌, ◌++◌, length, replicate, Option, Some, None, Result, Ok, Err, if◌then◌else◌}
use Rattle.std.specs.Int.{w32}
use Rattle.dis_records.specs.declared.kind.Kind.{Kind}
use Rattle.dis_records.specs.declared.kind.Kind.TheVariants as kinds
use Rattle.dis_records.specs.Layout.{spelled_number, total}
use Rattle.dis_records.specs.Records.{variable_sizes}
use Rattle.dis_records.specs.Views.{variable_start}
use Rattle.siman_pdus.specs.declared.fault.ViewFault.{ViewFault}
use Rattle.siman_pdus.specs.declared.fault.ViewFault.TheVariants as faults

-- end of parts of these sizes that follow one another from an offset on, or the start of the first that is incomplete
abbrev pub ends : ℕ → List ℕ → ℕ → Result ℕ ViewFault
ends at [] len = Ok at
ends at (n ∷ ns) len = if nat_lt len (at + n) then Err (faults.BodyShort at) else ends (at + n) ns len

-- the size of the fixed part of a body: the two identifiers, from offset 12 on, and the fields before the records
abbrev pub fixed_part : Kind → ℕ
fixed_part kinds.CreateEntity = 16
fixed_part kinds.RemoveEntity = 16
fixed_part kinds.StartResume = 32
fixed_part kinds.StopFreeze = 28
fixed_part kinds.Acknowledge = 20
fixed_part kinds.ActionRequest = 28
fixed_part kinds.ActionResponse = 28
fixed_part kinds.DataQuery = 28
fixed_part kinds.SetData = 28
fixed_part kinds.DataPdu = 28
fixed_part kinds.EventReport = 28
fixed_part kinds.Comment = 20

-- sizes of the records whose two counts are at an offset: fixed records of 8 bytes, then variable records
abbrev pub datum_sizes : ℕ → List ℕ → List ℕ
datum_sizes counts b = replicate (spelled_number w32 counts b) 8 ++ variable_sizes (spelled_number w32 (counts + 4) b) (variable_start counts b) b

-- sizes of the identifiers whose two counts are at an offset: 4 bytes each
abbrev pub id_sizes : ℕ → List ℕ → List ℕ
id_sizes counts b = replicate (spelled_number w32 counts b) 4 ++ replicate (spelled_number w32 (counts + 4) b) 4

-- the sizes of the records after the fixed part
abbrev pub record_sizes : Kind → List ℕ → List ℕ
record_sizes kinds.CreateEntity b = []
record_sizes kinds.RemoveEntity b = []
record_sizes kinds.StartResume b = []
record_sizes kinds.StopFreeze b = []
record_sizes kinds.Acknowledge b = []
record_sizes kinds.ActionRequest b = datum_sizes 32 b
record_sizes kinds.ActionResponse b = datum_sizes 32 b
record_sizes kinds.DataQuery b = id_sizes 32 b
record_sizes kinds.SetData b = datum_sizes 32 b
record_sizes kinds.DataPdu b = datum_sizes 32 b
record_sizes kinds.EventReport b = datum_sizes 32 b
record_sizes kinds.Comment b = datum_sizes 24 b

-- the sizes of the parts of a body: its fixed part, then each record
abbrev pub part_sizes : Kind → List ℕ → List ℕ
part_sizes kind b = fixed_part kind ∷ record_sizes kind b

-- The fault of the parts, or of bytes behind the last part.
abbrev pub body_fault : Result ℕ ViewFault → ℕ → Option ViewFault
body_fault (Err fault) len = Some fault
body_fault (Ok end) len = if nat_lt end len then Some (faults.BodyLong end) else None

abbrev pub body_refusal : Kind → List ℕ → Option ViewFault
body_refusal kind b = body_fault (ends 12 (part_sizes kind b) (length b)) (length b)

-- The parts of the body are all of the datagram behind its header.
abbrev pub IsWhole : Kind → List ℕ → Type 0
IsWhole kind b = 12 + total (part_sizes kind b) ≡ length b
