-- Refusals of a datagram: their numbers, and their printed texts (profile).
use Rattle.std.specs.Prelude.{ℕ, List, ◌++◌, codes, decimal}
use Rattle.dis_records.specs.declared.header.HeaderFault.TheVariants.{Truncated, Version, Family, Kind, Long, LengthField}
use Rattle.dis_records.specs.Texts.{header_fault_text}
use Rattle.siman_pdus.specs.declared.fault.PduFault.{PduFault}
use Rattle.siman_pdus.specs.declared.fault.PduFault.TheVariants.{Header, BodyShort, BodyLong, Memory}

-- Refusals are checked in the order of these numbers; want of memory, which is no refusal, has the last number.
abbrev pub refusal_number : PduFault → ℕ
refusal_number (Header Truncated) = 1
refusal_number (Header (Version version)) = 2
refusal_number (Header (Family family)) = 3
refusal_number (Header (Kind kind)) = 4
refusal_number (Header Long) = 5
refusal_number (Header (LengthField field)) = 6
refusal_number (BodyShort offset) = 7
refusal_number (BodyLong offset) = 8
refusal_number Memory = 9

-- the name of a refusal, with the bad number or its offset
abbrev pub pdu_fault_text : PduFault → List ℕ
pdu_fault_text (Header fault) = header_fault_text fault
pdu_fault_text (BodyShort offset) = codes "body-short at " ++ decimal offset
pdu_fault_text (BodyLong offset) = codes "body-long at " ++ decimal offset
pdu_fault_text Memory = codes "memory"
