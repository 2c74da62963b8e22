-- The answer of `audit` about a recording, and its ending.
use Rattle.std.specs.Prelude.{◌≡◌, ◌⊎◌, ℕ, List, length, string_bytes, Option, Result, Ok, Err}
use Rattle.std.specs.Io.KnownBytes.{Keeps}
use Rattle.exercise_model.specs.Recording.{PlainRecording}
use Rattle.exercise_model.specs.Headline.{Holds}
use Rattle.exercise_model.specs.Alike.{IsAlwaysAsSaid}
use Rattle.exercise_check.specs.declared.certificate.Step.{Step}
use Rattle.exercise_check.specs.Certificate.{certificate_text}
use Rattle.exercise_check.specs.Sequence.{sequence_of}
use Rattle.exercise_check.specs.Goodness.{IsGood}
use Rattle.exercise_audit.specs.declared.blocks.Block.{Block}
use Rattle.exercise_audit.specs.Audit.{IsBlocked}
use Rattle.exercise_audit.specs.Time.{IsTimely}
use Rattle.siman_outside.specs.declared.fault.Fault.{Fault}
use Rattle.siman_outside.specs.declared.product.Product.{Product}
use Rattle.siman_outside.specs.declared.product.Product.TheVariants.{File, Nothing}
use Rattle.siman_file_commands.specs.declared.audit.SequenceTexts.{SequenceTexts}
use Rattle.siman_outside.specs.declared.commands.Reading.{Reading}
use Rattle.siman_outside.specs.Recorded.{Recorded, recording_by, IsUnsearched, explained_text}
use Rattle.siman_outside.specs.Ending.{EndsWith}
use Rattle.siman_outside.specs.Outside.{Given, Stream}
use Rattle.siman_outside.specs.Making.{PutsBoth, PutsProduct}
use Rattle.siman_print.specs.Spelled.{lines_text}
use Rattle.exercise_conflict.specs.Blocked.{blocked_lines}

-- ---- the lines

-- THE BLOCKED LIST: blocked stations=N, and a line for each block, in their order
abbrev pub blocked_text : PlainRecording → List Block → List ℕ
blocked_text r blocks = lines_text (blocked_lines r blocks)

-- The text is the blocked list of a recording that no run explains.
abbrev pub IsListOf : PlainRecording → (text : List ℕ) → Type 0
IsListOf r text = (blocks : List Block) × IsBlocked r blocks × (text ≡ blocked_text r blocks)

-- ---- the result of a search

-- SOME SEQUENCE EXPLAINS the recording, and these are the steps of the sequence of time
pub record FindsSequence (recorded : Recorded) (steps : List Step) : Type 0 where
  -- The file is this recording.
  pub recording : PlainRecording
  pub read : recorded ≡ Ok recording
  -- There is a step for each entry, and each step is good.
  pub good : IsGood recording steps
  -- Each step takes, of the entries that may happen then, the one with the least stamp, then the least number.
  pub timely : IsTimely recording steps
  -- The sequence that the steps name is a run that explains the recording: the headline's sentences hold of it.
  pub holds : Holds recording (sequence_of recording steps)
  -- What the recording says holds in every run that explains it: the pairs of entries, and the states at the end.
  pub said : IsAlwaysAsSaid recording

-- NO SEQUENCE EXPLAINS the recording, and this is its blocked list
pub record FindsNone (recorded : Recorded) (text : List ℕ) : Type 0 where
  pub recording : PlainRecording
  pub read : recorded ≡ Ok recording
  -- No run explains it, and the blocks are those of every run that cannot go on.
  pub blocks : List Block
  pub blocked : IsBlocked recording blocks
  pub list : text ≡ blocked_text recording blocks

-- the texts about a sequence: its certificate, and its line
pub record AreTextsOf (steps : List Step) (certificate line : List ℕ) : Type 0 where
  pub certificate_is : certificate ≡ certificate_text steps
  pub line_is : line ≡ explained_text (length steps)

-- the result of a search, with its texts
abbrev pub Finding : Type 0
Finding = Product SequenceTexts

abbrev pub Finds : Recorded → Finding → Type 0
Finds recorded (File texts) =
    (steps : List Step) × FindsSequence recorded steps × AreTextsOf steps texts.certificate.items (string_bytes texts.line)
Finds recorded (Nothing text) = FindsNone recorded (string_bytes text)

abbrev pub Searches : Recorded → Result Finding Fault → Type 0
Searches recorded (Ok finding) = Finds recorded finding
Searches recorded (Err fault) = IsUnsearched recorded fault

-- ---- the writing

-- the texts about a sequence are written: its certificate to the file, and then its line
abbrev pub PutsSequence : SequenceTexts → Result ℕ Fault → (file out : Stream) → Type 0
PutsSequence texts = PutsBoth texts.certificate.items (string_bytes texts.line)

-- The answer of `audit`: a fault, with nothing written; or a sequence explains the recording, and its certificate and its line are written; or none does, the file is unchanged, and the blocked list is written.
abbrev pub GivesAudit : Recorded → (answered : Result ℕ Fault) → (file out : Stream) → Type 0
GivesAudit recorded answered file out =
    ((fault : Fault) × IsUnsearched recorded fault × (answered ≡ Err fault) × Keeps file.old file.new × Keeps out.old out.new)
    ⊎ ((finding : Finding) × Finds recorded finding × PutsProduct PutsSequence finding answered file out)

-- HOW `audit` ENDS: its answer is in the file and on the output, and its status and fault are those of the answer
abbrev pub EndsAudit : Recorded → (status : ℕ) → (file out errors : Stream) → Type 0
EndsAudit recorded status file out errors =
    (answered : Result ℕ Fault) × GivesAudit recorded answered file out × EndsWith answered status errors.old errors.new

-- THE RESULT FOR A FILE with these bytes, if they are known, as they are read
abbrev pub SearchesFile : Reading → (known : Option (List ℕ)) → Result Finding Fault → Type 0
SearchesFile reading known found = Given known (λ bytes. Searches (recording_by reading bytes) found)
