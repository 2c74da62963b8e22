-- What `chart` draws of a recording, and what it opens and writes.
use Rattle.std.specs.Prelude.{◌≡◌, ◌≢◌, ◌⊎◌, ℕ, Bool, true, false, List, [], ◌∷◌, take, map, codes, string_bytes, slice_index_or, All, Option, Some, None, Result, Ok, Err}
use Rattle.std.specs.Str.{bytes_eq}
use Rattle.std.specs.Io.KnownBytes.{Appends, Keeps}
use Rattle.exercise_model.specs.declared.cause.Cause.{Cause}
use Rattle.exercise_model.specs.declared.cause.Cause.TheVariants.{CountDiffers, NoSuchRecord}
use Rattle.exercise_model.specs.Account.{values_below}
use Rattle.exercise_model.specs.Headline.{Holds}
use Rattle.exercise_model.specs.Recording.{PlainRecording}
use Rattle.exercise_check.specs.declared.certificate.Step.{Step}
use Rattle.exercise_check.specs.declared.checker.CheckFault.TheVariants.{Bad}
use Rattle.exercise_check.specs.Goodness.{GoodBelow, IsGood, Refuses, no_step}
use Rattle.exercise_check.specs.Report.{no_text}
use Rattle.exercise_check.specs.Sequence.{sequence_of}
use Rattle.exercise_audit.specs.declared.blocks.Block.{Block}
use Rattle.exercise_audit.specs.Longest.{IsLongest}
use Rattle.exercise_audit.specs.Time.{IsTimely}
use Rattle.exercise_conflict.specs.Blocked.{blocked_lines}
use Rattle.exercise_chart.specs.declared.point.Rows.{Rows}
use Rattle.exercise_chart.specs.declared.selection.BlockedEntry.{BlockedEntry}
use Rattle.exercise_chart.specs.Marks.{MarksData, marks_of}
use Rattle.exercise_chart.specs.Picture.{row_fact, step_fact, LeadsDown, HasState}
use Rattle.siman_print.specs.Spelled.{lines_text}
use Rattle.siman_outside.specs.declared.commands.Reading.{Reading}
use Rattle.siman_outside.specs.declared.fault.Fault.{Fault}
use Rattle.siman_outside.specs.declared.fault.Fault.TheVariants.{Memory, Output}
use Rattle.siman_outside.specs.Making.{Answered, MakesFile, WritesShort}
use Rattle.siman_outside.specs.Opening.{MakesOfFile, MakesOfFiles}
use Rattle.siman_outside.specs.Outside.{Stream, Deed}
use Rattle.siman_outside.specs.Recorded.{SaysOfBytes, SaysOfBoth}
use Rattle.siman_analysis_commands.specs.declared.chart_words.Window.{Window}
use Rattle.siman_analysis_commands.specs.declared.picture.PictureTexts.{PictureTexts}
use Rattle.siman_analysis_commands.specs.ChartWords.{window_of, entities_of}
use Rattle.siman_analysis_commands.specs.Picture.{rows_count, DrawsPicture, IsFilterFault, IsUndrawn}

-- ---- a good certificate

-- THE CERTIFICATE IS GOOD for the recording: there is a step for each entry, and each step is good; the sequence that the steps name is a run that explains the recording, so that the headline's sentences hold of it
pub record IsCertified (r : PlainRecording) (steps : List Step) : Type 0 where
  pub good : IsGood r steps
  pub holds : Holds r (sequence_of r steps)

-- THE MARKS OF A GOOD CERTIFICATE SHOW A RUN: the rows are its steps, in their sequence, with their entries; an arrow leads from the source of a receipt down to the receipt; a bar has the state of its entity after each step that it covers
pub record ShowsRun (r : PlainRecording) (steps : List Step) (rows : Rows) (marks : MarksData) : Type 0 where
  pub steps_are : map row_fact marks.rows ≡ values_below (step_fact steps rows) (rows_count rows)
  pub arrows : All (LeadsDown r steps rows) marks.arrows
  pub bars : All (HasState r steps) marks.bars

-- THE PICTURE OF A GOOD CERTIFICATE, with status 0
pub record DrawsRun (words : List (List ℕ)) (window : Window) (r : PlainRecording) (steps : List Step) (texts : PictureTexts) : Type 0 where
  pub certified : IsCertified r steps
  pub drawn : DrawsPicture words window r steps [] None (string_bytes texts.picture) (string_bytes texts.answer)
  -- The picture shows a run.
  pub run : ShowsRun r steps drawn.rows (marks_of r steps drawn.rows (entities_of words) [])
  pub status_is : texts.status ≡ 0

abbrev pub ChartsRun : (words : List (List ℕ)) → Window → PlainRecording → List Step → Result PictureTexts Fault → Type 0
ChartsRun words window r steps (Ok texts) = DrawsRun words window r steps texts
ChartsRun words window r steps (Err fault) = (IsCertified r steps × IsUndrawn words window r steps fault) ⊎ (fault ≡ Memory)

-- ---- a certificate that is not good

-- the entry of the first bad step, with its cause; of a wrong count, and of a step that has no entry, none
abbrev pub bad_entries : List Step → (step : ℕ) → Cause → List BlockedEntry
bad_entries steps k CountDiffers = []
bad_entries steps k NoSuchRecord = []
bad_entries steps k cause = record { entry = (slice_index_or steps k no_step).place; cause = cause } ∷ []

-- THE PICTURE OF THE STEPS BEFORE THE FIRST BAD ONE, which are good, and of the entry of that one, with its cause; the row of the bad step, as `check` has it, stands before the answer, and the status is 1
pub record DrawsRefused (words : List (List ℕ)) (window : Window) (r : PlainRecording) (steps : List Step) (texts : PictureTexts) : Type 0 where
  pub step : ℕ
  pub cause : Cause
  pub refused : Refuses r steps (Bad step cause)
  pub bad : ¬ IsGood r steps
  pub good : GoodBelow r steps step
  pub drawn : DrawsPicture words window r (take step steps) (bad_entries steps step cause) (Some (no_text step cause)) (string_bytes texts.picture) (string_bytes texts.answer)
  pub status_is : texts.status ≡ 1

-- the steps that are drawn of a certificate: all of a good one, else those before the first bad one
abbrev pub AreDrawn : PlainRecording → List Step → (drawn : List Step) → Type 0
AreDrawn r steps drawn =
    (IsCertified r steps × (drawn ≡ steps)) ⊎ ((step : ℕ) × (cause : Cause) × Refuses r steps (Bad step cause) × (drawn ≡ take step steps))

-- THE RESULT FOR A RECORDING AND A CERTIFICATE: the picture of a good one, or that of the steps before the first bad one; or no picture is drawn, or memory ran out
abbrev pub Charts : (words : List (List ℕ)) → Window → PlainRecording → List Step → Result PictureTexts Fault → Type 0
Charts words window r steps (Ok texts) = DrawsRun words window r steps texts ⊎ DrawsRefused words window r steps texts
Charts words window r steps (Err fault) = ((drawn : List Step) × AreDrawn r steps drawn × IsUndrawn words window r drawn fault) ⊎ (fault ≡ Memory)

-- ---- no certificate

-- THE PICTURE OF WHAT SOME SEQUENCE EXPLAINS is that of the certificate that `audit` writes: of the sequence of time
pub record DrawsTimely (words : List (List ℕ)) (window : Window) (r : PlainRecording) (texts : PictureTexts) : Type 0 where
  pub steps : List Step
  pub timely : IsTimely r steps
  pub drawn : DrawsRun words window r steps texts

-- the entry of a block, and its cause
abbrev pub entry_of : Block → BlockedEntry
entry_of b = record { entry = b.entry; cause = b.cause }

-- THE PICTURE OF WHAT NO SEQUENCE EXPLAINS: of the longest run, and of the next entry of each station that cannot go on after it, with its cause; the blocked list, as `audit` prints it, stands before the answer, and the status is 1
pub record DrawsLongest (words : List (List ℕ)) (window : Window) (r : PlainRecording) (texts : PictureTexts) : Type 0 where
  pub steps : List Step
  pub blocks : List Block
  pub longest : IsLongest r steps blocks
  pub some : blocks ≢ []
  pub drawn : DrawsPicture words window r steps (map entry_of blocks) (Some (lines_text (blocked_lines r blocks))) (string_bytes texts.picture) (string_bytes texts.answer)
  pub status_is : texts.status ≡ 1

-- THE RESULT FOR A RECORDING ALONE; the steps that a word may pass are those of the longest run
abbrev pub ChartsAlone : (words : List (List ℕ)) → Window → PlainRecording → Result PictureTexts Fault → Type 0
ChartsAlone words window r (Ok texts) = DrawsTimely words window r texts ⊎ DrawsLongest words window r texts
ChartsAlone words window r (Err fault) =
    ((steps : List Step) × (blocks : List Block) × IsLongest r steps blocks × IsUndrawn words window r steps fault) ⊎ (fault ≡ Memory)

-- ---- files

-- THE RESULT OF TWO FILES with these bytes, if they are known, the recording as it is read
abbrev pub ChartsFiles : Reading → (words : List (List ℕ)) → Window → (recording certificate : Option (List ℕ)) → Result PictureTexts Fault → Type 0
ChartsFiles reading words window recording certificate charted =
    (out : Stream) × SaysOfBoth reading (λ r steps charted out. Charts words window r steps charted) recording certificate charted out

-- THE RESULT OF THE FILE OF A RECORDING ALONE
abbrev pub ChartsFile : Reading → (words : List (List ℕ)) → Window → (recording : Option (List ℕ)) → Result PictureTexts Fault → Type 0
ChartsFile reading words window recording charted = (out : Stream) × SaysOfBytes reading (λ r charted out. ChartsAlone words window r charted) recording charted out

-- THE FILE OF A PICTURE: the picture, and then the rows of the answer, with their status; a failed write leaves a prefix of the picture and no row, or the whole picture and a prefix of the rows
abbrev pub PutsPicture : PictureTexts → Answered → (file out : Stream) → Type 0
PutsPicture texts (Ok status) file out =
    (status ≡ texts.status) × Appends file.old file.new (string_bytes texts.picture) × Appends out.old out.new (string_bytes texts.answer)
PutsPicture texts (Err fault) file out = (fault ≡ Output) × WritesShort (string_bytes texts.picture) (string_bytes texts.answer) file out

abbrev pub MakesPicture : PictureTexts → (force : Bool) → (picture : List ℕ) → List Deed → Answered → Stream → Type 0
MakesPicture texts force picture deeds answered out = MakesFile (PutsPicture texts) force picture deeds answered out

-- `-` in the place of the certificate: there is none
abbrev pub is_alone : (certificate : List ℕ) → Bool
is_alone certificate = bytes_eq certificate (codes "-")

-- The files are opened: both, neither of which is the one to be made, before either is read; or the recording alone.
abbrev pub ChartsOpened : Reading → (alone : Bool) → (recording certificate picture : List ℕ) → (words : List (List ℕ)) → Window → (force : Bool) → List Deed → Answered → Stream → Type 0
ChartsOpened reading true recording certificate picture words window force deeds answered out =
    MakesOfFile (ChartsFile reading words window) MakesPicture force recording picture deeds answered out
ChartsOpened reading false recording certificate picture words window force deeds answered out =
    MakesOfFiles (ChartsFiles reading words window) MakesPicture force recording certificate picture deeds answered out

-- WHAT `chart` DOES: the first bad word is reported, with nothing opened; or the files are opened, and the picture is made, of a good certificate or up to the first bad step, or of the recording alone
abbrev pub ChartsNamed : Reading → (recording certificate picture : List ℕ) → (words : List (List ℕ)) → (force : Bool) → List Deed → Answered → Stream → Type 0
ChartsNamed reading recording certificate picture words force deeds answered out =
    ((word : List ℕ) × (fault : Fault) × (window_of words ≡ Err word) × IsFilterFault word fault × (deeds ≡ []) × (answered ≡ Err fault) × Keeps out.old out.new)
    ⊎ ((window : Window) × (window_of words ≡ Ok window) × ChartsOpened reading (is_alone certificate) recording certificate picture words window force deeds answered out)
