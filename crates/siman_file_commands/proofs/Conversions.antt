-- A recording that was carried over to the second format, or was not.
use Rattle.std.proofs.Common.{◌≡◌, ℕ, List, Ok, refl, inl, inr, ap, ◌∙◌}
use Rattle.exercise_model.specs.Recording.{PlainRecording}
use Rattle.exercise_recording.specs.declared.format_fault.RecordingFault.TheVariants as recordings
use Rattle.exercise_recording.specs.declared.conversion.ConvertFault.{ConvertFault}
use Rattle.exercise_recording.specs.declared.conversion.ConvertFault.TheVariants as converts
use Rattle.exercise_recording.specs.Conversion.{ConversionData, IsOld, IsUnconverted, Readies}
use Rattle.siman_outside.specs.Recorded.{Recorded}
use Rattle.siman_outside.specs.Ending.{of_convert}
use Rattle.siman_outside.proofs.Offered.{unsearched}
use Rattle.siman_file_commands.specs.Convert.{converted_text, IsUncarried, CarriesTexts}

-- nothing was readied
pub uncarried : (recorded : Recorded) (fault : ConvertFault) → IsUnconverted recorded fault → IsUncarried recorded (of_convert fault)
uncarried recorded (converts.Recording (recordings.Format f)) why = inl (unsearched recorded (recordings.Format f) why)
uncarried recorded (converts.Recording recordings.Read) why = inl (unsearched recorded recordings.Read tt)
uncarried recorded (converts.Recording recordings.Memory) why = absurd why
uncarried recorded converts.Already why = inr (why, refl)
uncarried recorded converts.Write why = absurd why
uncarried recorded converts.Memory why = inl (unsearched recorded recordings.Memory tt)

-- it was readied, and its line made
pub readied : (c : ConversionData) (line : List ℕ) → line ≡ converted_text c.entries → (recorded : Recorded) → Readies recorded (Ok c)
    → (r : PlainRecording) × IsOld recorded r × CarriesTexts r c.text line
readied c line is recorded p = (
  p.0,
  p.1,
  record { text_is = ap (λ (d : ConversionData). d.text) p.2; line_is = is ∙ ap (λ (d : ConversionData). converted_text d.entries) p.2 },
)
