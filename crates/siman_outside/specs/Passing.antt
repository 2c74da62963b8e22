-- Texts that are written in parts while the rest is buffered, and how the text of a recording is written.
use Rattle.std.specs.Prelude.{◌≡◌, ◌⊎◌, ℕ, List, ◌++◌, Option, Result, Ok, Err}
use Rattle.std.specs.Io.KnownBytes.{Appends, Keeps}
use Rattle.byte_files.specs.Writing.{WritesPart}
use Rattle.exercise_model.specs.Recording.{PlainRecording}
use Rattle.exercise_recording.specs.declared.format_fault.FormatFault.{FormatFault}
use Rattle.exercise_recording.specs.declared.format_fault.RecordingFault.TheVariants as recordings
use Rattle.siman_outside.specs.declared.fault.Fault.{Fault}
use Rattle.siman_outside.specs.Making.{Answered}
use Rattle.siman_outside.specs.Outside.{Stream}
use Rattle.siman_outside.specs.declared.fault.Fault.TheVariants.{Recording, Output, Memory}

-- All of a text was appended but what is buffered, which is its end.
abbrev pub IsPassedOn : Option (List ℕ) → Option (List ℕ) → (held text : List ℕ) → Type 0
IsPassedOn old new held text = (out : List ℕ) × Appends old new out × (out ++ held ≡ text)

-- Writing a part fails by a failed write or for lack of memory.
abbrev pub IsUnpassed : Fault → Type 0
IsUnpassed fault = (fault ≡ Output) ⊎ (fault ≡ Memory)

-- Parts of a text were written, or on a fault a prefix of it.
abbrev pub PassesOn : Result (Unit {0}) Fault → Option (List ℕ) → Option (List ℕ) → (held text : List ℕ) → Type 0
PassesOn (Ok x) old new held text = IsPassedOn old new held text
PassesOn (Err fault) old new held text = IsUnpassed fault × WritesPart old new text

-- the text of the recording that was read was written whole, or a prefix of it
abbrev pub GivesWhole : (text : PlainRecording → List ℕ) → Result PlainRecording FormatFault → Option (List ℕ) → Option (List ℕ) → Type 0
GivesWhole text recorded old new = (r : PlainRecording) × (recorded ≡ Ok r) × Appends old new (text r)

abbrev pub GivesPart : (text : PlainRecording → List ℕ) → Result PlainRecording FormatFault → Option (List ℕ) → Option (List ℕ) → Type 0
GivesPart text recorded old new = (r : PlainRecording) × (recorded ≡ Ok r) × WritesPart old new (text r)

-- The text of a recording was written, or the recording has a bad field. A failed read writes nothing; lack of memory may occur before and during the writing.
abbrev pub Gives : (text : PlainRecording → List ℕ) → Result PlainRecording FormatFault → Result (Unit {0}) Fault → Option (List ℕ) → Option (List ℕ) → Type 0
Gives text recorded (Ok x) old new = GivesWhole text recorded old new
Gives text recorded (Err (Recording (recordings.Format fault))) old new = (recorded ≡ Err fault) × Keeps old new
Gives text recorded (Err (Recording recordings.Read)) old new = Keeps old new
Gives text recorded (Err Output) old new = GivesPart text recorded old new
Gives text recorded (Err Memory) old new = Keeps old new ⊎ GivesPart text recorded old new
Gives text recorded (Err other) old new = ⊥

-- the exit status after the text of a recording: 0
abbrev pub shown_status : Result (Unit {0}) Fault → Result ℕ Fault
shown_status (Ok x) = Ok 0
shown_status (Err fault) = Err fault

-- A TEXT IS PRINTED whole, with status 0, or a prefix of it
abbrev pub PrintsText : (text : List ℕ) → Answered → (out : Stream) → Type 0
PrintsText text (Ok status) out = (status ≡ 0) × Appends out.old out.new text
PrintsText text (Err fault) out = IsUnpassed fault × WritesPart out.old out.new text
