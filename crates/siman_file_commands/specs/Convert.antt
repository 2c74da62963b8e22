-- What `convert` makes of a recording, and its ending.
use Rattle.std.specs.Prelude.{◌≡◌, ◌⊎◌, ℕ, List, length, codes, Option, Result, Ok, Err, string_bytes}
use Rattle.exercise_model.specs.Recording.{PlainRecording}
use Rattle.exercise_model.specs.Conversion.{converted}
use Rattle.exercise_recording.specs.Text.{recording_text}
use Rattle.exercise_recording.specs.Conversion.{IsOld, IsAlready}
use Rattle.siman_file_commands.specs.declared.convert.Carried.{Carried}
use Rattle.siman_outside.specs.declared.fault.Fault.{Fault}
use Rattle.siman_outside.specs.declared.fault.Fault.TheVariants.{Already}
use Rattle.siman_outside.specs.Recorded.{Recorded, IsUnsearched}
use Rattle.siman_print.specs.CountLine.{counted}
use Rattle.siman_file_commands.specs.declared.convert.TheConstants.{LARGEST_OLD_RECORDING}
use Rattle.exercise_recording.specs.Reading.{recording_at}
use Rattle.siman_outside.specs.declared.product.Product.{Product}
use Rattle.siman_outside.specs.declared.product.Product.TheVariants.{File, Nothing}
use Rattle.siman_outside.specs.Outside.{Given, Stream}
use Rattle.siman_outside.specs.Making.{PutsBoth}
use Rattle.siman_print.specs.Spelled.{line_text}

-- the line `converted records=N`
abbrev pub converted_text : (entries : ℕ) → List ℕ
converted_text entries = line_text (counted (codes "converted") (codes "records") entries)

-- NOTHING IS CONVERTED: the file has a bad field, a read failed, memory ran out, or it has the second format already
abbrev pub IsUncarried : Recorded → Fault → Type 0
IsUncarried recorded fault = IsUnsearched recorded fault ⊎ (IsAlready recorded × (fault ≡ Already))

-- the texts of a converted recording: that of the conversion, and the line
pub record CarriesTexts (r : PlainRecording) (text line : List ℕ) : Type 0 where
  pub text_is : text ≡ recording_text (converted r)
  pub line_is : line ≡ converted_text (length r.entries)

-- the conversion with its texts, or the fault
abbrev pub Carries : Recorded → Result Carried Fault → Type 0
Carries recorded (Ok carried) = (r : PlainRecording) × IsOld recorded r × CarriesTexts r carried.conversion.text (string_bytes carried.line)
Carries recorded (Err fault) = IsUncarried recorded fault

-- THE RESULT FOR A FILE with these bytes, if they are known: the conversion
abbrev pub CarriesFile : (known : Option (List ℕ)) → Result (Product Carried) Fault → Type 0
CarriesFile known (Ok (File carried)) = Given known (λ bytes. Carries (recording_at LARGEST_OLD_RECORDING bytes) (Ok carried))
CarriesFile known (Ok (Nothing text)) = ⊥
CarriesFile known (Err fault) = Given known (λ bytes. Carries (recording_at LARGEST_OLD_RECORDING bytes) (Err fault))

-- the file of a conversion: its text, whole, and then the line, with status 0
abbrev pub PutsConverted : Carried → Result ℕ Fault → (file out : Stream) → Type 0
PutsConverted carried = PutsBoth carried.conversion.text (string_bytes carried.line)
