-- What `export` makes of a recording, and its ending.
use Rattle.std.specs.Prelude.{◌≡◌, ◌⊎◌, ℕ, List, [], ◌∷◌, codes, Option, Result, Ok, Err, String, string_bytes}
use Rattle.std.specs.declared.alloc.Global.{Global}
use Rattle.std.specs.Io.KnownBytes.{Keeps}
use Rattle.exercise_model.specs.Recording.{PlainRecording}
use Rattle.exercise_recording.specs.Reading.{recording_at}
use Rattle.exercise_recording.specs.Captures.Export.{exported_text, packet_count, told_count}
use Rattle.siman_print.specs.Line.{Line, Number, Keyed, named_line}
use Rattle.siman_print.specs.Spelled.{line_text}
use Rattle.siman_outside.specs.declared.fault.Fault.{Fault}
use Rattle.siman_outside.specs.declared.fault.Fault.TheVariants.{Memory}
use Rattle.siman_outside.specs.declared.limits.TheConstants.{LARGEST_RECORDING}
use Rattle.siman_outside.specs.declared.product.Product.{Product}
use Rattle.siman_outside.specs.declared.product.Product.TheVariants.{File, Nothing}
use Rattle.siman_outside.specs.Making.{PutsBoth}
use Rattle.siman_outside.specs.Outside.{Given, Stream}
use Rattle.siman_outside.specs.declared.commands.Reading.{Reading}
use Rattle.siman_outside.specs.Recorded.{Recorded, recording_by, IsUnsearched}
use Rattle.siman_file_commands.specs.declared.export.ExportedFile.{ExportedFile}

-- the line `exported packets=N told=N`: entries that have a packet, and states told, which have none
abbrev pub exported_line : PlainRecording → Line
exported_line r =
    named_line (codes "exported") (Keyed (codes "packets") (Number (packet_count r)) ∷ Keyed (codes "told") (Number (told_count r)) ∷ [])

-- THE LINE OF A RECORDING, judged whole; or the fault of a file that is none
abbrev pub GivesLine : Recorded → Result (String Global) Fault → Type 0
GivesLine recorded (Ok line) = (r : PlainRecording) × (recorded ≡ Ok r) × (string_bytes line ≡ line_text (exported_line r))
GivesLine recorded (Err fault) = IsUnsearched recorded fault

-- the texts of an exported recording: the kept bytes of its file, which are this recording, and the line
pub record ExportsTexts (r : PlainRecording) (kept line : List ℕ) : Type 0 where
  pub kept_is : recording_at LARGEST_RECORDING kept ≡ Ok r
  pub line_is : line ≡ line_text (exported_line r)

-- A RECORDING TO BE WRITTEN AS A CAPTURE, judged whole before a file is made; or the fault of a file that is none
abbrev pub Exports : Recorded → Result (Product ExportedFile) Fault → Type 0
Exports recorded (Ok (File exported)) =
    (r : PlainRecording) × (recorded ≡ Ok r) × ExportsTexts r exported.bytes.items (string_bytes exported.line)
Exports recorded (Ok (Nothing text)) = ⊥
Exports recorded (Err fault) = IsUnsearched recorded fault

-- THE RESULT FOR A FILE with these bytes, if they are known, as they are read
abbrev pub ExportsFile : Reading → (known : Option (List ℕ)) → Result (Product ExportedFile) Fault → Type 0
ExportsFile reading known result = Given known (λ bytes. Exports (recording_by reading bytes) result)

-- The capture of a recording is written to the file, and then the line, with status 0; or memory ran out before anything was.
abbrev pub PutsCapture : PlainRecording → (line : List ℕ) → Result ℕ Fault → (file out : Stream) → Type 0
PutsCapture r line answered file out =
    ((answered ≡ Err Memory) × Keeps file.old file.new × Keeps out.old out.new) ⊎ PutsBoth (exported_text r) line answered file out

-- THE FILE OF AN EXPORTED RECORDING: the capture of the recording that the kept bytes are, whole, and then the line
abbrev pub PutsExported : ExportedFile → Result ℕ Fault → (file out : Stream) → Type 0
PutsExported exported answered file out =
    (r : PlainRecording) → recording_at LARGEST_RECORDING exported.bytes.items ≡ Ok r → PutsCapture r (string_bytes exported.line) answered file out
