-- The answer of `check` about a recording and a certificate, and its ending.
use Rattle.std.specs.Prelude.{◌≡◌, ◌⊎◌, ℕ, List, Bool, true, false, Option, Result, Ok, Err}
use Rattle.std.specs.Io.KnownBytes.{Appends, Keeps}
use Rattle.exercise_model.specs.declared.cause.Cause.{Cause}
use Rattle.exercise_recording.specs.declared.format_fault.RecordingFault.TheVariants as recordings
use Rattle.exercise_model.specs.Recording.{PlainRecording}
use Rattle.exercise_model.specs.Headline.{Holds}
use Rattle.exercise_model.specs.Alike.{IsAlwaysAsSaid}
use Rattle.byte_files.specs.Writing.{WritesPart}
use Rattle.exercise_check.specs.declared.certificate.Step.{Step}
use Rattle.exercise_check.specs.declared.certificate_fault.CertificateFault.TheVariants as certificates
use Rattle.exercise_check.specs.declared.checker.CheckFault.TheVariants.{Bad}
use Rattle.exercise_findings.specs.Account.{AccountData, IsAccount}
use Rattle.exercise_check.specs.Checked.{HasKnowledge, HasPairs}
use Rattle.exercise_check.specs.Sequence.{sequence_of}
use Rattle.exercise_check.specs.Goodness.{IsGood, Refuses}
use Rattle.siman_outside.specs.declared.files_fault.FilesFault.{FilesFault}
use Rattle.siman_outside.specs.declared.files_fault.FilesFault.TheVariants.{Recording, Certificate, Write, Memory}
use Rattle.siman_outside.specs.declared.fault.Fault.{Fault}
use Rattle.siman_outside.specs.declared.fault.Fault.TheVariants as faults
use Rattle.siman_outside.specs.Ending.{EndsWith, of_files}
use Rattle.siman_outside.specs.Outside.{Stream}
use Rattle.siman_outside.specs.Recorded.{Recorded, Certified}
use Rattle.exercise_check.specs.Report.{report_text, no_text}

-- THE MEANING OF A YES
pub record SaysYes (recorded : Recorded) (certified : Certified) (old new : Option (List ℕ)) : Type 0 where
  -- The first file is this recording.
  pub recording : PlainRecording
  pub read : recorded ≡ Ok recording
  -- The second file is the certificate with these steps.
  pub steps : List Step
  pub certificate : certified ≡ Ok steps
  -- It has a step for each entry, and each step is good.
  pub good : IsGood recording steps
  -- The sequence that it names is a run that explains the recording: the headline's sentences hold of it.
  pub holds : Holds recording (sequence_of recording steps)
  -- Its pairs of requests and answers, and the changes of Able acknowledgements, are those of the recording; each pair has the request that is taken up in that run, and each change is known in it.
  pub knows : (checked : AccountData) × IsAccount recording checked × HasPairs recording (sequence_of recording steps) checked × HasKnowledge recording (sequence_of recording steps) checked
  -- They hold in every run that explains the recording: the pairs, and the states at the end.
  pub said : IsAlwaysAsSaid recording
  -- The report of the recording is appended to the output.
  pub out : Appends old new (report_text recording)

-- THE MEANING OF A NO
pub record SaysNo (recorded : Recorded) (certified : Certified) (old new : Option (List ℕ)) : Type 0 where
  pub recording : PlainRecording
  pub read : recorded ≡ Ok recording
  pub steps : List Step
  pub certificate : certified ≡ Ok steps
  -- This step is the first bad one, and this cause the first that holds there; or the number of steps differs.
  pub step : ℕ
  pub cause : Cause
  pub refused : Refuses recording steps (Bad step cause)
  -- The certificate is not good.
  pub bad : ¬ IsGood recording steps
  -- Its line is appended to the output.
  pub out : Appends old new (no_text step cause)

-- the text of the answer for a recording and the steps of a certificate
abbrev pub IsDue : PlainRecording → List Step → List ℕ → Type 0
IsDue r steps text =
    (IsGood r steps × (text ≡ report_text r)) ⊎ ((k : ℕ) × (cause : Cause) × Refuses r steps (Bad k cause) × (text ≡ no_text k cause))

-- AFTER A FAILED WRITE a prefix of the answer is on the output
pub record SaysPart (recorded : Recorded) (certified : Certified) (old new : Option (List ℕ)) : Type 0 where
  pub recording : PlainRecording
  pub read : recorded ≡ Ok recording
  pub steps : List Step
  pub certificate : certified ≡ Ok steps
  pub text : List ℕ
  pub due : IsDue recording steps text
  pub part : WritesPart old new text

-- A recording and a certificate were judged: a yes, a no, or the fault of the first bad file. A failed read may occur in either file, lack of memory at any time.
abbrev pub Judges : Recorded → Certified → Result Bool FilesFault → Option (List ℕ) → Option (List ℕ) → Type 0
Judges recorded certified (Ok true) old new = SaysYes recorded certified old new
Judges recorded certified (Ok false) old new = SaysNo recorded certified old new
Judges recorded certified (Err (Recording (recordings.Format fault))) old new = (recorded ≡ Err fault) × Keeps old new
Judges recorded certified (Err (Recording recordings.Read)) old new = Keeps old new
Judges recorded certified (Err (Recording recordings.Memory)) old new = ⊥
Judges recorded certified (Err (Certificate (certificates.Format fault))) old new =
    ((r : PlainRecording) × (recorded ≡ Ok r)) × (certified ≡ Err fault) × Keeps old new
Judges recorded certified (Err (Certificate certificates.Read)) old new = ((r : PlainRecording) × (recorded ≡ Ok r)) × Keeps old new
Judges recorded certified (Err (Certificate certificates.Memory)) old new = ⊥
Judges recorded certified (Err Write) old new = SaysPart recorded certified old new
Judges recorded certified (Err Memory) old new = Keeps old new

-- the exit status of a judgement: 0 yes, 1 no
abbrev pub judged_status : Result Bool FilesFault → Result ℕ Fault
judged_status (Ok true) = Ok 0
judged_status (Ok false) = Ok 1
judged_status (Err fault) = Err (of_files fault)

-- The answer of `check`: a judgement is on the output, with status 0 or 1, or there was a fault.
abbrev pub GivesCheck : Recorded → Certified → (answered : Result ℕ Fault) → (old new : Option (List ℕ)) → Type 0
GivesCheck recorded certified answered old new =
    (judged : Result Bool FilesFault) × Judges recorded certified judged old new × (answered ≡ judged_status judged)

-- THE ANSWER OF `check` for a recording and the steps of a certificate
abbrev pub ChecksCertificate : PlainRecording → List Step → Result ℕ Fault → (out : Stream) → Type 0
ChecksCertificate r steps answered out = GivesCheck (Ok r) (Ok steps) answered out.old out.new

-- the fault of a judgement, for the fault of a command
abbrev pub files_fault : Fault → FilesFault
files_fault (faults.Recording fault) = Recording fault
files_fault (faults.Certificate fault) = Certificate fault
files_fault faults.Output = Write
files_fault fault = Memory

-- HOW `check` ENDS: its answer is on the output, and its status and fault are those of the answer
abbrev pub EndsCheck : Recorded → Certified → (status : ℕ) → (old new : Option (List ℕ)) → (errors_old errors_new : Option (List ℕ)) → Type 0
EndsCheck recorded certified status old new errors_old errors_new =
    (answered : Result ℕ Fault) × GivesCheck recorded certified answered old new × EndsWith answered status errors_old errors_new
