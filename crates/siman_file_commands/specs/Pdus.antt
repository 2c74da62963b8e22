-- The answer of the command `pdus` for hex texts, one in each line, and its ending.
use Rattle.std.specs.Prelude.{◌≡◌, ◌⊎◌, ℕ, ◌+◌, max, List, [], ◌∷◌, ◌++◌, length, take, ◌==◌, Option, Result, Ok, Err, if◌then◌else◌}
use Rattle.std.specs.Io.KnownBytes.{Appends, Keeps}
use Rattle.byte_files.specs.Writing.{WritesPart}
use Rattle.siman_outside.specs.declared.fault.Ended.{Ended}
use Rattle.siman_outside.specs.declared.fault.Fault.TheVariants.{HexLine, Input, Output, Memory}
use Rattle.siman_file_commands.specs.declared.pdus.PdusFault.{PdusFault}
use Rattle.siman_file_commands.specs.declared.pdus.PdusFault.TheVariants as stops
use Rattle.siman_file_commands.specs.Answer.{Said, said_of_hex}
use Rattle.siman_outside.specs.Ending.{Ends, fault_line}
use Rattle.siman_outside.specs.Outside.{Stream, Outcome}

-- ---- the answer

-- the worst status, the text for the output, and the text for the writer of faults
pub record LinesResult : Type 0 where
  pub status : ℕ
  pub out : List ℕ
  pub errors : List ℕ

abbrev pub untold : LinesResult
untold = record { status = 0; out = []; errors = [] }

-- one answer after another
abbrev pub and_then : LinesResult → LinesResult → LinesResult
and_then a b = record { status = max a.status b.status; out = a.out ++ b.out; errors = a.errors ++ b.errors }

-- the answer for the line of this number, from 1, for which `pdu` would give this answer; for a line that is not pairs of hex digits, its fault
abbrev pub result_of_said : ℕ → Said → LinesResult
result_of_said number said =
    if said.status == 2
    then record { status = 2; out = []; errors = fault_line (HexLine number) }
    else record { status = said.status; out = said.text; errors = [] }

-- the answer for a line, which is none for an empty one
abbrev pub result_of_line : ℕ → List ℕ → LinesResult
result_of_line number [] = untold
result_of_line number (b ∷ bs) = result_of_said number (said_of_hex (b ∷ bs))

-- THE ANSWER FOR LINES behind n others, one after another
unfoldable pub result_of : ℕ → List (List ℕ) → LinesResult
result_of n [] = untold
result_of n (line ∷ lines) = and_then (result_of_line (n + 1) line) (result_of (n + 1) lines)

-- ---- the writing

-- All of this is written, and nothing else.
abbrev pub IsWritten : LinesResult → (out errors : Stream) → Type 0
IsWritten told out errors = Appends out.old out.new told.out × Appends errors.old errors.new told.errors

-- A text is written, and behind it a prefix of another.
abbrev pub WritesTorn : Stream → (text torn : List ℕ) → Type 0
WritesTorn stream text torn = (n : ℕ) × Appends stream.old stream.new (text ++ take n torn)

-- what a failed write leaves of the first of these lines
abbrev pub OfFirst : List (List ℕ) → (List ℕ → Type 0) → Type 0
OfFirst [] Leaves = ⊥
OfFirst (line ∷ lines) Leaves = Leaves line

-- WHERE THE COMMAND STOPS before the end: the answers for these lines are written whole; a failed read or lack of memory leaves nothing of the next line's answer, a failed write a prefix of it
abbrev pub StopsAfter : (whole rest : List (List ℕ)) → PdusFault → (out errors : Stream) → Type 0
StopsAfter whole rest (stops.Unreported failed) out errors =
    Appends out.old out.new (result_of 0 whole).out
    × OfFirst rest (λ line. WritesTorn errors (result_of 0 whole).errors (result_of_line (length whole + 1) line).errors)
StopsAfter whole rest (stops.Unread failed) out errors = IsWritten (result_of 0 whole) out errors
StopsAfter whole rest (stops.Fault fault) out errors =
    Appends errors.old errors.new (result_of 0 whole).errors
    × (((fault ≡ Memory) × Appends out.old out.new (result_of 0 whole).out)
    ⊎ ((fault ≡ Output) × OfFirst rest (λ line. WritesTorn out (result_of 0 whole).out (result_of_line (length whole + 1) line).out)))

-- THE OUTPUT FOR LINES: the answers for all of them, with the worst status; or for the first ones
abbrev pub ShowsLines : List (List ℕ) → Result ℕ PdusFault → (out errors : Stream) → Type 0
ShowsLines lines (Ok status) out errors = (status ≡ (result_of 0 lines).status) × IsWritten (result_of 0 lines) out errors
ShowsLines lines (Err stop) out errors =
    (whole rest : List (List ℕ)) × (lines ≡ whole ++ rest) × StopsAfter whole rest stop out errors

-- the output for a bad line: its fault, or a prefix of it
abbrev pub PutsBadLine : (number : ℕ) → Result ℕ PdusFault → (errors : Stream) → Type 0
PutsBadLine number (Ok status) errors = (status ≡ 2) × Appends errors.old errors.new (fault_line (HexLine number))
PutsBadLine number (Err (stops.Unreported failed)) errors = WritesPart errors.old errors.new (fault_line (HexLine number))
PutsBadLine number (Err (stops.Unread failed)) errors = ⊥
PutsBadLine number (Err (stops.Fault fault)) errors = ⊥

-- the output for one line with this answer: all of it, or a prefix of its text
abbrev pub ShowsLine : LinesResult → Result ℕ PdusFault → (out errors : Stream) → Type 0
ShowsLine told (Ok status) out errors = (status ≡ told.status) × IsWritten told out errors
ShowsLine told (Err (stops.Unreported failed)) out errors = Keeps out.old out.new × WritesPart errors.old errors.new told.errors
ShowsLine told (Err (stops.Unread failed)) out errors = ⊥
ShowsLine told (Err (stops.Fault fault)) out errors =
    Keeps errors.old errors.new
    × (((fault ≡ Memory) × Keeps out.old out.new) ⊎ ((fault ≡ Output) × WritesPart out.old out.new told.out))

-- ---- the ending

-- the ending at the end of the lines, or where the command stopped: with the worst status, with the line of a fault, or with status 2 if the line of a bad line could not be written
abbrev pub EndsAt : Result ℕ PdusFault → Ended → (old new : Option (List ℕ)) → Type 0
EndsAt (Ok status) ended old new = Ends (Ok status) ended old new
EndsAt (Err (stops.Fault fault)) ended old new = Ends (Err fault) ended old new
EndsAt (Err (stops.Unread failed)) ended old new = Ends (Err Input) ended old new
EndsAt (Err (stops.Unreported failed)) ended old new = (ended ≡ record { status = 2; written = Err failed }) × Keeps old new

-- HOW `pdus` ENDS for an input with these lines: its answer is on the output and the writer of faults, and its status and fault are those of the answer
abbrev pub EndsLines : List (List ℕ) → Outcome → Type 0
EndsLines lines o =
    (answered : Result ℕ PdusFault) × (mid : Option (List ℕ))
    × (let errors : Stream = record { old = o.errors.old; new = mid } in ShowsLines lines answered o.out errors)
    × EndsAt answered o.ended mid o.errors.new
