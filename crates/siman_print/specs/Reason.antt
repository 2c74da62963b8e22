-- Reasons why a datagram means nothing in an exercise, and their text (profile).
use Rattle.std.specs.Prelude.{ℕ, ◌==◌, List, [], ◌++◌, codes, decimal, Option, Some, None, option_and_then, if◌then◌else◌}
use Rattle.dis_records.specs.declared.header.HeaderFault.{HeaderFault}
use Rattle.dis_records.specs.declared.header.HeaderFault.TheVariants as headers
use Rattle.siman_pdus.specs.declared.fault.ViewFault.{ViewFault}
use Rattle.siman_pdus.specs.declared.fault.ViewFault.TheVariants as views
use Rattle.siman_pdus.specs.declared.pdu.Body.{Body}
use Rattle.siman_pdus.specs.declared.pdu.Body.TheVariants.{Acknowledge}
use Rattle.siman_pdus.specs.declared.pdu.Pdu.{Pdu}
use Rattle.siman_pdus.specs.Reading.{view_refusal, reading}
use Rattle.siman_pdus.specs.Role.{is_acknowledge_flag}
use Rattle.siman_print.specs.Line.{Value, Word}
use Rattle.siman_print.specs.Fields.{option_value}
use Rattle.siman_print.specs.declared.reason.OtherReason.{OtherReason}
use Rattle.siman_print.specs.declared.reason.OtherReason.TheVariants.{Refused, Exercise, Flag}

-- ---- the reason

-- the flag of an Acknowledge that answers nothing
abbrev pub idle_flag : Body → Option OtherReason
idle_flag (Acknowledge flag response request) = if is_acknowledge_flag flag then None else Some (Flag flag)
idle_flag body = None

-- the number of another exercise than x, or else the flag
abbrev pub why_unmeant : ℕ → Pdu → Option OtherReason
why_unmeant x p = if p.exercise == x then idle_flag p.body else Some (Exercise p.exercise)

-- the refusal of the decoder, or else the reason of the decoded PDU
abbrev pub why_read : ℕ → Option ViewFault → Option Pdu → Option OtherReason
why_read x (Some fault) read = Some (Refused fault)
why_read x None read = option_and_then (why_unmeant x) read

-- THE REASON WHY A DATAGRAM MEANS NOTHING in exercise x; None if it means something
unfoldable pub why_other : ℕ → List ℕ → Option OtherReason
why_other x b = why_read x (view_refusal b) (reading b)

-- ---- its text

-- the name of a header fault, and the wrong number
abbrev pub header_name : HeaderFault → List ℕ
header_name headers.Truncated = codes "truncated"
header_name (headers.Version version) = codes "version"
header_name (headers.Family family) = codes "family"
header_name (headers.Kind kind) = codes "kind"
header_name headers.Long = codes "long"
header_name (headers.LengthField field) = codes "length-field"

abbrev pub header_number : HeaderFault → Option ℕ
header_number headers.Truncated = None
header_number (headers.Version version) = Some version
header_number (headers.Family family) = Some family
header_number (headers.Kind kind) = Some kind
header_number headers.Long = None
header_number (headers.LengthField field) = Some field

-- the name of a reason; a refusal has the name that the decoder gives it
abbrev pub reason_name : OtherReason → List ℕ
reason_name (Refused (views.Header fault)) = header_name fault
reason_name (Refused (views.BodyShort offset)) = codes "body-short"
reason_name (Refused (views.BodyLong offset)) = codes "body-long"
reason_name (Exercise exercise) = codes "exercise"
reason_name (Flag flag) = codes "flag"

-- the wrong number, or the offset of the fault
abbrev pub reason_number : OtherReason → Option ℕ
reason_number (Refused (views.Header fault)) = header_number fault
reason_number (Refused (views.BodyShort offset)) = Some offset
reason_number (Refused (views.BodyLong offset)) = Some offset
reason_number (Exercise exercise) = Some exercise
reason_number (Flag flag) = Some flag

-- a number after some text, or nothing
abbrev pub number_behind : List ℕ → Option ℕ → List ℕ
number_behind before None = []
number_behind before (Some n) = before ++ decimal n

-- NAME:N, or NAME for a reason without a number
abbrev pub reason_text : OtherReason → List ℕ
reason_text why = reason_name why ++ number_behind (codes ":") (reason_number why)

-- the value of a field: a reason, or missing
abbrev pub reason_value : Option OtherReason → Value
reason_value why = option_value (λ why. Word (reason_text why)) why
