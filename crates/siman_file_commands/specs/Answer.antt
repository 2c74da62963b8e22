-- The answer of the command `pdu`, and its ending.
use Rattle.std.specs.Prelude.{◌≡◌, ℕ, codes, ◌≤◌, List, [], ◌∷◌, take, Option, Some, None, Result, Ok, Err}
use Rattle.std.specs.Io.KnownBytes.{Appends, Keeps}
use Rattle.dis_records.specs.Header.{header_at}
use Rattle.siman_pdus.specs.declared.fault.PduFault.{PduFault}
use Rattle.siman_pdus.specs.declared.pdu.Pdu.{Pdu}
use Rattle.siman_pdus.specs.Reading.{pdu_from, refusal_of}
use Rattle.siman_pdus.specs.Texts.{refusal_number, pdu_fault_text}
use Rattle.siman_outside.specs.declared.fault.Fault.{Fault}
use Rattle.siman_outside.specs.declared.fault.Fault.TheVariants.{NotBytePairs, Output, Memory}
use Rattle.siman_outside.specs.Ending.{EndsWith}
use Rattle.siman_file_commands.specs.HexText.{bytes_of}
use Rattle.siman_print.specs.declared.spelling.Spelling.TheVariants.{Text}
use Rattle.siman_print.specs.Line.{Number, Phrase, Bare, Line, named_line}
use Rattle.siman_print.specs.Spelled.{line_text, lines_spelled}
use Rattle.siman_print.specs.Records.{pdu_lines}

-- an exit status, and the text that is printed
pub record Said : Type 0 where
  pub status : ℕ
  pub text : List ℕ

abbrev pub said_of_pdu : Pdu → Said
said_of_pdu pdu = record { status = 0; text = lines_spelled Text (pdu_lines pdu) }

-- the line `refused NUMBER NAME`
abbrev pub refusal_line : PduFault → Line
refusal_line fault = named_line (codes "refused") (Bare (codes "number") (Number (refusal_number fault)) ∷ Bare (codes "fault") (Phrase (pdu_fault_text fault)) ∷ [])

abbrev pub refused : PduFault → Said
refused fault = record { status = 1; text = line_text (refusal_line fault) }

abbrev pub said_of_reading : Option PduFault → Pdu → Said
said_of_reading None pdu = said_of_pdu pdu
said_of_reading (Some fault) pdu = refused fault

-- the lines of the PDU that a datagram spells, or else its refusal
abbrev pub answer_to : List ℕ → Said
answer_to b = said_of_reading (refusal_of b) (pdu_from (header_at b) b)

abbrev pub not_byte_pairs : Said
not_byte_pairs = record { status = 2; text = [] }

abbrev pub said_of_bytes : Option (List ℕ) → Said
said_of_bytes None = not_byte_pairs
said_of_bytes (Some b) = answer_to b

-- the answer for a word, hex text or not
abbrev pub said_of_hex : List ℕ → Said
said_of_hex text = said_of_bytes (bytes_of text)

-- An answer was written whole, or a prefix of it; nothing of it if memory ran out or the word is no hex text.
abbrev pub IsSaid : Said → Result ℕ Fault → Option (List ℕ) → Option (List ℕ) → Type 0
IsSaid said (Ok status) old new = (status ≡ said.status) × (status ≤ 1) × Appends old new said.text
IsSaid said (Err NotBytePairs) old new = (said ≡ not_byte_pairs) × Keeps old new
IsSaid said (Err Output) old new = (n : ℕ) × Appends old new (take n said.text)
IsSaid said (Err Memory) old new = Keeps old new
IsSaid said (Err other) old new = ⊥

-- HOW `pdu` ENDS with this answer: its text is on the output, and its status and fault are those of the answer
abbrev pub EndsPdu : Said → (status : ℕ) → (old new : Option (List ℕ)) → (errors_old errors_new : Option (List ℕ)) → Type 0
EndsPdu said status old new errors_old errors_new = (answered : Result ℕ Fault) × IsSaid said answered old new × EndsWith answered status errors_old errors_new
