-- What `mend` makes of a recording, and its ending.
use Rattle.std.specs.Prelude.{◌≡◌, ◌⊎◌, ℕ, List, [], ◌∷◌, codes, Option, Some, None, Result, Ok, Err, string_bytes}
use Rattle.exercise_recording.specs.declared.format_fault.FormatFault.{FormatFault}
use Rattle.exercise_recording.specs.declared.format_fault.RecordingFault.TheVariants as recordings
use Rattle.exercise_recording.specs.declared.mending.Mended.{Mended}
use Rattle.exercise_recording.specs.FaultText.{format_fault_text}
use Rattle.exercise_recording.specs.Mending.{Whole, mended_at, result_of}
use Rattle.exercise_recording.specs.Text.{recording_text}
use Rattle.siman_print.specs.Line.{Line, Number, Phrase, Keyed, Bare, named_line}
use Rattle.siman_print.specs.Spelled.{line_text}
use Rattle.siman_outside.specs.declared.fault.Fault.{Fault}
use Rattle.siman_outside.specs.declared.fault.Fault.TheVariants.{Recording, Memory}
use Rattle.siman_file_commands.specs.declared.mend.MendedFile.{MendedFile}
use Rattle.siman_outside.specs.declared.limits.TheConstants.{LARGEST_TORN_RECORDING}
use Rattle.siman_print.specs.CountLine.{counted}
use Rattle.siman_outside.specs.declared.product.Product.{Product}
use Rattle.siman_outside.specs.declared.product.Product.TheVariants.{File, Nothing}
use Rattle.siman_outside.specs.Making.{PutsBoth}
use Rattle.siman_outside.specs.Outside.{Given, Stream}

-- the line `mended records=N kept=N FAULT`
abbrev pub torn_line : Mended → FormatFault → Line
torn_line told fault =
    named_line (codes "mended") (Keyed (codes "records") (Number told.entries) ∷ Keyed (codes "kept") (Number told.kept)
    ∷ Bare (codes "fault") (Phrase (format_fault_text fault)) ∷ [])

-- the line of the answer: that line, or for a whole recording `whole records=N`
abbrev pub result_line : Mended → Option FormatFault → Line
result_line told None = counted (codes "whole") (codes "records") told.entries
result_line told (Some fault) = torn_line told fault

abbrev pub mended_text : Mended → List ℕ
mended_text told = line_text (result_line told told.fault)

-- NOTHING IS MENDED: the file has a fault that an interrupted recorder does not leave, a read failed, or memory ran out
abbrev pub IsUnmended : Result Whole FormatFault → Fault → Type 0
IsUnmended given fault =
    ((bad : FormatFault) × (given ≡ Err bad) × (fault ≡ Recording (recordings.Format bad)))
    ⊎ (fault ≡ Recording recordings.Read)
    ⊎ (fault ≡ Memory)

-- the texts of a mended recording: its whole part, and the line
pub record MendsTexts (whole : Whole) (text line : List ℕ) : Type 0 where
  pub text_is : text ≡ recording_text whole.recording
  pub line_is : line ≡ mended_text (result_of whole)

-- the mended recording with its texts, or the fault
abbrev pub Mends : Result Whole FormatFault → Result MendedFile Fault → Type 0
Mends given (Ok mended) = (whole : Whole) × (given ≡ Ok whole) × MendsTexts whole mended.mending.text (string_bytes mended.line)
Mends given (Err fault) = IsUnmended given fault

-- THE RESULT FOR A FILE with these bytes, if they are known: its whole part
abbrev pub MendsFile : (known : Option (List ℕ)) → Result (Product MendedFile) Fault → Type 0
MendsFile known (Ok (File mended)) = Given known (λ bytes. Mends (mended_at LARGEST_TORN_RECORDING bytes) (Ok mended))
MendsFile known (Ok (Nothing text)) = ⊥
MendsFile known (Err fault) = Given known (λ bytes. Mends (mended_at LARGEST_TORN_RECORDING bytes) (Err fault))

-- the file of the whole part: its text, and then the line, with status 0
abbrev pub PutsMended : MendedFile → Result ℕ Fault → (file out : Stream) → Type 0
PutsMended mended = PutsBoth mended.mending.text (string_bytes mended.line)
