-- The faults of judging a certificate.
use Rattle.std.specs.Prelude.{ℕ}
use Rattle.exercise_recording.specs.declared.format_fault.RecordingFault.{RecordingFault}
use Rattle.exercise_recording.specs.declared.format_fault.RecordingFault.TheVariants as recordings
use Rattle.exercise_check.specs.declared.certificate_fault.CertificateFault.{CertificateFault}
use Rattle.exercise_check.specs.declared.certificate_fault.CertificateFault.TheVariants as certificates
use Rattle.siman_outside.specs.declared.files_fault.FilesFault.{FilesFault}
use Rattle.siman_outside.specs.declared.files_fault.FilesFault.TheVariants.{Recording, Certificate, Memory}
use Rattle.siman_outside.specs.Ending.{fault_status, of_files}

-- the fault for the fault of a recording, and of a certificate
abbrev pub of_recording : RecordingFault → FilesFault
of_recording recordings.Memory = Memory
of_recording fault = Recording fault

abbrev pub of_certificate : CertificateFault → FilesFault
of_certificate certificates.Memory = Memory
of_certificate fault = Certificate fault

-- the exit statuses: 0 yes, 1 no, 2 a fault, 3 lack of memory
abbrev pub files_fault_status : FilesFault → ℕ
files_fault_status fault = fault_status (of_files fault)
