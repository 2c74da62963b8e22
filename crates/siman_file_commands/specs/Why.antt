-- The answer of `why` about a recording or a certificate, and its ending.
use Rattle.std.specs.Prelude.{◌≡◌, ◌⊎◌, ℕ, List, ◌++◌, length, Option, Some, None}
use Rattle.exercise_model.specs.Account.{others_of}
use Rattle.exercise_model.specs.Recording.{PlainRecording}
use Rattle.exercise_check.specs.declared.certificate.Step.{Step}
use Rattle.exercise_check.specs.Goodness.{IsGood}
use Rattle.exercise_conflict.specs.declared.conflict.Conflict.{Conflict}
use Rattle.exercise_conflict.specs.declared.verdict.Refusal.{Refusal}
use Rattle.exercise_conflict.specs.Whole.{IsConflictOf, IsRefusalOf}
use Rattle.siman_print.specs.declared.spelling.Spelling.{Spelling}
use Rattle.siman_print.specs.Line.{Line}
use Rattle.siman_print.specs.Spelled.{line_spelled, lines_spelled}
use Rattle.exercise_check.specs.Report.{yes_line}
use Rattle.exercise_conflict.specs.Blocked.{explained_line}
use Rattle.exercise_conflict.specs.Told.{conflict_lines, conflict_entries, refusal_lines, refusal_entries}
use Rattle.exercise_log.specs.Named.{named_lines}
use Rattle.siman_outside.specs.Making.{Answered}
use Rattle.siman_outside.specs.Outside.{Stream, Deed}
use Rattle.siman_outside.specs.declared.commands.Reading.{Reading}
use Rattle.siman_outside.specs.Recorded.{SaysOfBytes, SaysOfBoth}
use Rattle.siman_outside.specs.Saying.{SaysOfFile, SaysOfFiles}
use Rattle.siman_outside.specs.AnswerText.{Answers}

-- ---- a recording alone

-- the lines of a recording's conflict, then those of the entries that they name
abbrev pub conflict_rows : PlainRecording → Conflict → List Line
conflict_rows r c = conflict_lines r c ++ named_lines r (conflict_entries c)

-- SOME SEQUENCE EXPLAINS the recording
pub record SaysExplained (spelling : Spelling) (recording : PlainRecording) (text : List ℕ) : Type 0 where
  -- It has a good certificate.
  pub steps : List Step
  pub good : IsGood recording steps
  -- The line says so, with the number of steps.
  pub text_is : text ≡ line_spelled spelling (explained_line (length recording.entries))

-- NO SEQUENCE DOES, and this is the conflict
pub record SaysConflict (spelling : Spelling) (recording : PlainRecording) (text : List ℕ) : Type 0 where
  -- The blocked list and the rest of the conflict are those of the recording.
  pub conflict : Conflict
  pub contradicts : IsConflictOf recording conflict
  -- The text is its lines.
  pub text_is : text ≡ lines_spelled spelling (conflict_rows recording conflict)

-- THE ANSWER FOR A RECORDING, with status 0 if some sequence explains it, else with status 1
abbrev pub SaysWhy : Spelling → PlainRecording → (text : List ℕ) → (status : ℕ) → Type 0
SaysWhy spelling r text status = (SaysExplained spelling r text × (status ≡ 0)) ⊎ (SaysConflict spelling r text × (status ≡ 1))

-- ---- a recording and a certificate

-- the lines of a certificate that is not good, then those of the entries that they name
abbrev pub refusal_rows : PlainRecording → Refusal → List Line
refusal_rows r f = refusal_lines r f ++ named_lines r (refusal_entries f)

-- THE CERTIFICATE IS GOOD
pub record SaysGood (spelling : Spelling) (recording : PlainRecording) (steps : List Step) (text : List ℕ) : Type 0 where
  pub good : IsGood recording steps
  -- The text is the first line of its report.
  pub text_is : text ≡ line_spelled spelling (yes_line (length recording.entries) (others_of recording))

-- THE CERTIFICATE IS NOT GOOD, and this is what its first bad step contradicts
pub record SaysRefusal (spelling : Spelling) (recording : PlainRecording) (steps : List Step) (text : List ℕ) : Type 0 where
  -- the first bad step with the first cause that holds there, its clash, and whether some run explains the recording
  pub refusal : Refusal
  pub refused : IsRefusalOf recording steps refusal
  pub text_is : text ≡ lines_spelled spelling (refusal_rows recording refusal)

-- THE ANSWER FOR A RECORDING AND A CERTIFICATE, with status 0 if the certificate is good, else with status 1
abbrev pub SaysWhyNot : Spelling → PlainRecording → List Step → (text : List ℕ) → (status : ℕ) → Type 0
SaysWhyNot spelling r steps text status =
    (SaysGood spelling r steps text × (status ≡ 0)) ⊎ (SaysRefusal spelling r steps text × (status ≡ 1))

-- ---- by the names of files

-- THE ANSWER OF `why` for the name of a recording, which is read so, and perhaps of a certificate: they are opened in that order before either is read
abbrev pub WhyNamed : Spelling → Reading → (name : List ℕ) → (other : Option (List ℕ)) → List Deed → Answered → (out : Stream) → Type 0
WhyNamed spelling reading name None = SaysOfFile (SaysOfBytes reading (λ r. Answers (SaysWhy spelling r))) name
WhyNamed spelling reading name (Some other) = SaysOfFiles (SaysOfBoth reading (λ r steps. Answers (SaysWhyNot spelling r steps))) name other
