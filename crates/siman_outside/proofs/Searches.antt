-- A recording that could not be read, and a certificate.
use Rattle.std.proofs.Common.{◌≡◌, ℕ, List, Option, Result, Ok, Err, refl, inl, inr}
use Rattle.std.specs.Result.{IsErrAnd}
use Rattle.std.proofs.KnownBytes.{Keeps-refl}
use Rattle.exercise_model.specs.Recording.{PlainRecording}
use Rattle.exercise_recording.specs.declared.format_fault.RecordingFault.{RecordingFault}
use Rattle.exercise_recording.specs.declared.format_fault.RecordingFault.TheVariants as recordings
use Rattle.exercise_recording.specs.Reading.{format_of}
use Rattle.exercise_check.specs.declared.certificate_fault.CertificateFault.{CertificateFault}
use Rattle.exercise_check.specs.declared.certificate_fault.CertificateFault.TheVariants as certificates
use Rattle.exercise_check.specs.Certificate as certificate
use Rattle.byte_files.specs.Fields.{Fails}
use Rattle.siman_outside.specs.declared.fault.Fault.{Fault}
use Rattle.siman_outside.specs.Outside.{Stream, stream}
use Rattle.siman_outside.specs.Recorded.{Recorded, Certified, IsUnsearched, IsUncertified, SaysOfRecording}
use Rattle.siman_outside.specs.Ending.{of_recording, of_certificate}

-- a recording that could not be read
pub unsearched : (recorded : Recorded) (fault : RecordingFault) → Fails (format_of fault) recorded → IsUnsearched recorded (of_recording fault)
unsearched recorded (recordings.Format f) why = inl (f, why, refl)
unsearched recorded recordings.Read why = inr (inl refl)
unsearched recorded recordings.Memory why = inr (inr refl)

-- a certificate that could not be read
pub uncertified : (certified : Certified) (fault : CertificateFault) → Fails (certificate.format_of fault) certified → IsUncertified certified (of_certificate fault)
uncertified certified (certificates.Format f) why = inl (f, why, refl)
uncertified certified certificates.Read why = inr (inl refl)
uncertified certified certificates.Memory why = inr (inr refl)

-- what a command says of a recording that could not be read
pub unread : {A : Type 0} (Says : PlainRecording → Result A Fault → Stream → Type 0) (recorded : Recorded) (fault : RecordingFault) (result : Result A Fault) (kept : Option (List ℕ))
    → IsErrAnd result (λ e. e ≡ of_recording fault) → Fails (format_of fault) recorded → SaysOfRecording Says recorded result (stream kept kept)
unread Says recorded fault (Ok answer) kept passed why = absurd passed
unread Says recorded fault (Err e) kept passed why = rw passed (inl (of_recording fault, unsearched recorded fault why, refl, Keeps-refl kept))
