-- The results of reading a recording and its certificate, the faults if nothing was read or judged, and the line of an explained recording.
use Rattle.std.specs.Prelude.{◌≡◌, ◌⊎◌, ⊤, ℕ, Bool, true, false, List, Vec, codes, Option, Result, Ok, Err}
use Rattle.std.specs.declared.alloc.Global.{Global}
use Rattle.std.specs.Io.KnownBytes.{Keeps}
use Rattle.exercise_model.specs.Recording.{PlainRecording}
use Rattle.exercise_recording.specs.declared.format_fault.FormatFault.{FormatFault}
use Rattle.exercise_recording.specs.declared.format_fault.RecordingFault.TheVariants as recordings
use Rattle.exercise_check.specs.declared.certificate.Step.{Step}
use Rattle.exercise_check.specs.declared.certificate_fault.CertificateFormatFault.{CertificateFormatFault}
use Rattle.exercise_check.specs.declared.certificate_fault.CertificateFault.TheVariants as certificates
use Rattle.siman_print.specs.Spelled.{line_text}
use Rattle.siman_print.specs.CountLine.{counted}
use Rattle.exercise_recording.specs.Reading.{recording_at}
use Rattle.exercise_recording.specs.Mending.{Whole, mended_at}
use Rattle.exercise_check.specs.Certificate.{certificate_at}
use Rattle.siman_outside.specs.declared.commands.Reading.{Reading}
use Rattle.siman_outside.specs.declared.commands.Reading.TheVariants as readings
use Rattle.siman_outside.specs.declared.fault.Fault.{Fault}
use Rattle.siman_outside.specs.declared.fault.Fault.TheVariants.{Recording, Certificate, Memory}
use Rattle.siman_outside.specs.declared.limits.TheConstants.{LARGEST_CERTIFICATE, LARGEST_RECORDING, LARGEST_TORN_RECORDING}
use Rattle.siman_outside.specs.Outside.{Given, Stream}

-- the result of reading a recording, and of reading a certificate: its steps
abbrev pub Recorded : Type 0
Recorded = Result PlainRecording FormatFault

abbrev pub Certified : Type 0
Certified = Result (List Step) CertificateFormatFault

-- the recording that is kept of bytes that may be torn, or their fault
abbrev pub kept_of : Result Whole FormatFault → Recorded
kept_of (Ok m) = Ok m.recording
kept_of (Err fault) = Err fault

-- THE RECORDING OF BYTES, as they are read: of a whole one, or what `mend` keeps of them
abbrev pub recording_by : Reading → List ℕ → Recorded
recording_by readings.Whole bytes = recording_at LARGEST_RECORDING bytes
recording_by readings.Torn bytes = kept_of (mended_at LARGEST_TORN_RECORDING bytes)

-- NOTHING WAS SEARCHED: the file has a bad field, a read failed, or memory ran out
abbrev pub IsUnsearched : Recorded → Fault → Type 0
IsUnsearched recorded fault =
    ((bad : FormatFault) × (recorded ≡ Err bad) × (fault ≡ Recording (recordings.Format bad)))
    ⊎ (fault ≡ Recording recordings.Read)
    ⊎ (fault ≡ Memory)

-- a certificate could not be read: it has a bad field, a read failed, or memory ran out
abbrev pub IsUncertified : Certified → Fault → Type 0
IsUncertified certified fault =
    ((bad : CertificateFormatFault) × (certified ≡ Err bad) × (fault ≡ Certificate (certificates.Format bad)))
    ⊎ (fault ≡ Certificate certificates.Read)
    ⊎ (fault ≡ Memory)

-- NOTHING WAS JUDGED: the recording could not be read, which is tried first; or it could, and the certificate could not
abbrev pub IsUnjudged : Recorded → Certified → Fault → Type 0
IsUnjudged recorded certified fault = IsUnsearched recorded fault ⊎ (((r : PlainRecording) × (recorded ≡ Ok r)) × IsUncertified certified fault)

-- bytes are a whole recording, within either limit
abbrev pub IsWhole : List ℕ → Bool → Type 0
IsWhole bytes true = (r : PlainRecording) × (recording_at LARGEST_TORN_RECORDING bytes ≡ Ok r) × (recording_at LARGEST_RECORDING bytes ≡ Ok r)
IsWhole bytes false = ⊤

-- bytes that were read for a recording are those of that recording; or nothing was searched
abbrev pub AreRead : Recorded → Result (Vec ℕ Global) Fault → Type 0
AreRead recorded (Ok text) = recording_at LARGEST_RECORDING text.items ≡ recorded
AreRead recorded (Err fault) = IsUnsearched recorded fault

-- ---- what commands say of them

-- A COMMAND ABOUT A RECORDING returns the fault of a file that is none, with nothing written; of a recording it says what `Says` relates to it
abbrev pub SaysOfRecording : {A : Type 0} → (Says : PlainRecording → Result A Fault → Stream → Type 0) → Recorded → Result A Fault → (out : Stream) → Type 0
SaysOfRecording Says recorded answered out =
    ((fault : Fault) × IsUnsearched recorded fault × (answered ≡ Err fault) × Keeps out.old out.new)
    ⊎ ((r : PlainRecording) × (recorded ≡ Ok r) × Says r answered out)

-- a command about a certificate, after its recording was read
abbrev pub SaysOfCertificate : {A : Type 0} → (Says : List Step → Result A Fault → Stream → Type 0) → Certified → Result A Fault → (out : Stream) → Type 0
SaysOfCertificate Says certified answered out =
    ((fault : Fault) × IsUncertified certified fault × (answered ≡ Err fault) × Keeps out.old out.new)
    ⊎ ((steps : List Step) × (certified ≡ Ok steps) × Says steps answered out)

-- A COMMAND ABOUT THE RECORDING IN A FILE with these bytes, if they are known, as they are read
abbrev pub SaysOfBytes : {A : Type 0} → Reading → (Says : PlainRecording → Result A Fault → Stream → Type 0) → (known : Option (List ℕ)) → Result A Fault → (out : Stream) → Type 0
SaysOfBytes reading Says known answered out = Given known (λ bytes. SaysOfRecording Says (recording_by reading bytes) answered out)

abbrev pub SaysOfText : {A : Type 0} → (Says : List Step → Result A Fault → Stream → Type 0) → (known : Option (List ℕ)) → Result A Fault → (out : Stream) → Type 0
SaysOfText Says known answered out = Given known (λ text. SaysOfCertificate Says (certificate_at LARGEST_CERTIFICATE text) answered out)

-- A COMMAND ABOUT THE RECORDING IN ONE FILE AND THE CERTIFICATE IN ANOTHER: the certificate is read after the recording
abbrev pub SaysOfBoth : {A : Type 0} → Reading → (Says : PlainRecording → List Step → Result A Fault → Stream → Type 0) → (recording certificate : Option (List ℕ)) → Result A Fault → (out : Stream) → Type 0
SaysOfBoth reading Says recording certificate = SaysOfBytes reading (λ r. SaysOfText (Says r) certificate) recording

-- ---- lines

-- the line `explained steps=N`
abbrev pub explained_text : ℕ → List ℕ
explained_text steps = line_text (counted (codes "explained") (codes "steps") steps)
