-- The end of a session (profile).
use Rattle.siman_lines.specs.declared.line.PassedOver.{PassedOver}
use Rattle.siman_operator.specs.declared.closing.SocketCounts.{SocketCounts}
use Rattle.std.specs.Prelude.{◌≡◌, ◌⊎◌, ℕ, true, List, [], ◌∷◌, codes, Option, Some, None, Result, Ok, Err}
use Rattle.std.specs.Io.KnownBytes.{Appends, Keeps}
use Rattle.byte_files.specs.Writing.{WritesPart}
use Rattle.exercise_recording.specs.Text.{end_text}
use Rattle.exercise_recording.specs.Writer.{WriterState, Finishes, Tears, finish_refusal}
use Rattle.siman_print.specs.Line.{Number, Keyed, Line, named_line}
use Rattle.siman_print.specs.Fields.{option_value}
use Rattle.siman_print.specs.Spelled.{line_text}
use Rattle.siman_operator.specs.Deeds.{PostData}
use Rattle.siman_operator.specs.declared.printing.PrintFault.{PrintFault}
use Rattle.siman_operator.specs.declared.printing.PrintFault.TheVariants as prints

-- station records=N dropped=N strangers=N other=N lost=N buffer=N
abbrev pub session_line : (records dropped : ℕ) → PassedOver → SocketCounts → Line
session_line records dropped passed counts =
    named_line (codes "station") (Keyed (codes "records") (Number records) ∷ Keyed (codes "dropped") (Number dropped)
    ∷ Keyed (codes "strangers") (Number passed.strangers) ∷ Keyed (codes "other") (Number passed.others) ∷ Keyed (codes "lost") (option_value Number counts.lost)
    ∷ Keyed (codes "buffer") (option_value Number counts.buffer) ∷ [])

abbrev pub session_text : (records dropped : ℕ) → PassedOver → SocketCounts → List ℕ
session_text records dropped passed counts = line_text (session_line records dropped passed counts)

-- THE ROW OF COUNTS is printed: whole; a prefix, or all of it, if a write or a flush failed; nothing, if memory ran
-- out
abbrev pub PrintsCounts : List ℕ → (old new : Option (List ℕ)) → Result (Unit {0}) PrintFault → Type 0
PrintsCounts text old new (Ok x) = Appends old new text
PrintsCounts text old new (Err prints.Write) = WritesPart old new text
PrintsCounts text old new (Err prints.Memory) = Keeps old new

-- the row of counts; nothing, if an entry was not printed before
abbrev pub PrintsEnd : Option PrintFault → List ℕ → (old new : Option (List ℕ)) → Result (Unit {0}) PrintFault → Type 0
PrintsEnd None text old new closed = PrintsCounts text old new closed
PrintsEnd (Some fault) text old new closed = (closed ≡ Ok tt) × (new ≡ old)

-- the recording has no end: it was spent before, or a prefix of the end was written
abbrev pub IsUnended : (old new : WriterState) → Type 0
IsUnended old new = ((old.spent ≡ true) × (new ≡ old)) ⊎ ((finish_refusal old ≡ None) × Tears old new (end_text old.entries))

-- THE RECORDING IS ENDED and its counts are printed, with what the system says of the socket; or the end failed, and
-- nothing is printed
abbrev pub Closes : {L : Type 0} → (passed : L → PassedOver) → (old new : PostData L) → (out out_after : Option (List ℕ)) → Result (Unit {0}) PrintFault → Type 0
Closes passed old new out out_after closed =
    (IsUnended old.recorder new.recorder × (closed ≡ Err prints.Write) × (out_after ≡ out))
    ⊎ ((finish_refusal old.recorder ≡ None) × Finishes old.recorder new.recorder
    × ((counts : SocketCounts) × PrintsEnd old.fault (session_text new.recorder.entries old.station.dropped (passed old.station.line.line) counts) out out_after closed))
