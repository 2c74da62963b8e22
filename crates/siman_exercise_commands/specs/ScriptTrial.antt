-- The result of a trial of a script: its world is run, its recording searched for a sequence, and the recording
-- judged by that sequence.
use Rattle.std.specs.Prelude.{◌≡◌, ℕ, Bool, true, false, List, ◌++◌, length, Option, Some, None, Result, Ok, Err}
use Rattle.std.specs.Io.KnownBytes.{Appends, Keeps}
use Rattle.byte_files.specs.Writing.{WritesPart}
use Rattle.exercise_model.specs.History.{past}
use Rattle.exercise_model.specs.Recording.{PlainRecording}
use Rattle.exercise_model.specs.Run.{IsRun}
use Rattle.exercise_check.specs.declared.certificate.Step.{Step}
use Rattle.exercise_check.specs.Goodness.{IsGood}
use Rattle.siman_scripts.specs.declared.script_fault.ScriptFault.TheVariants as scripts
use Rattle.siman_stations.specs.declared.world_fault.WorldFault.TheVariants as worlds
use Rattle.siman_scripts.specs.Script.{ScriptData}
use Rattle.siman_outside.specs.declared.fault.Fault.{Fault}
use Rattle.siman_exercise_commands.specs.declared.trial_fault.TrialFault.{TrialFault}
use Rattle.siman_exercise_commands.specs.declared.trial_fault.TrialFault.TheVariants.{Read, Script, World, Write, Memory}
use Rattle.siman_exercise_commands.specs.TrialFaults.{of_trial}
use Rattle.siman_outside.specs.Outside.{Has, Stream}
use Rattle.exercise_check.specs.Report.{report_text}
use Rattle.siman_outside.specs.Recorded.{explained_text}
use Rattle.siman_exercise_commands.specs.Explained.{Scripted, TextRead, text_read, Refuses, Stopped}
use Rattle.siman_exercise_commands.specs.World.{recording_of, refusal_of, world_text}

-- THE TEXT OF A TRIAL, a function of the recording alone: the row of its world, the row of a sequence with a step
-- for each entry, and the report
abbrev pub trial_text : PlainRecording → List ℕ
trial_text r = world_text r ++ explained_text (length r.entries) ++ report_text r

-- CLOSURE: the world of a script runs; the entries of its recording, in their order, are a run; and a sequence is
-- found that `check` accepts
pub record IsClosed (s : ScriptData) : Type 0 where
  pub runs : refusal_of s ≡ None
  pub run : IsRun (recording_of s).setting (past (recording_of s).entries)
  pub steps : List Step
  pub good : IsGood (recording_of s) steps

-- a script was tried, and the whole text of its trial is written; or a prefix of it
abbrev pub IsTried : ScriptData → Option (List ℕ) → Option (List ℕ) → Type 0
IsTried s old new = IsClosed s × Appends old new (trial_text (recording_of s))

abbrev pub IsTriedInPart : ScriptData → Option (List ℕ) → Option (List ℕ) → Type 0
IsTriedInPart s old new = IsClosed s × WritesPart old new (trial_text (recording_of s))

-- THE RESULT OF A TRIAL OF A SCRIPT: yes, with its text written, which the script alone determines; or why its
-- world does not run, with nothing written; or a failed write; or memory ran out, before anything was written
abbrev pub Performs : ScriptData → Result Bool TrialFault → Option (List ℕ) → Option (List ℕ) → Type 0
Performs s (Ok true) old new = IsTried s old new
Performs s (Ok false) old new = ⊥
Performs s (Err (Read failed)) old new = ⊥
Performs s (Err (Script fault)) old new = ⊥
Performs s (Err (World worlds.Stations)) old new = (refusal_of s ≡ Some worlds.Stations) × Keeps old new
Performs s (Err (World (worlds.Move number fault))) old new = (refusal_of s ≡ Some (worlds.Move number fault)) × Keeps old new
Performs s (Err (World worlds.Memory)) old new = ⊥
Performs s (Err Write) old new = IsTriedInPart s old new
Performs s (Err Memory) old new = Keeps old new

-- the text is that of a script for which this holds
abbrev pub OfScript : Scripted → (ScriptData → Type 0) → Type 0
OfScript scripted Holds = (s : ScriptData) × (scripted ≡ Ok s) × Holds s

-- THE RESULT OF A TRIAL OF A TEXT: that of the script that the text spells; or its first refused line, with nothing
-- written; or the text could not be read
abbrev pub Tries : Scripted → Result Bool TrialFault → Option (List ℕ) → Option (List ℕ) → Type 0
Tries scripted (Ok true) old new = OfScript scripted (λ s. Performs s (Ok true) old new)
Tries scripted (Ok false) old new = ⊥
Tries scripted (Err (Read failed)) old new = Keeps old new
Tries scripted (Err (Script (scripts.BadLine line))) old new = (scripted ≡ Err (scripts.BadLine line)) × Keeps old new
Tries scripted (Err (Script (scripts.UnknownStation line))) old new = (scripted ≡ Err (scripts.UnknownStation line)) × Keeps old new
Tries scripted (Err (Script scripts.Memory)) old new = ⊥
Tries scripted (Err (World fault)) old new = OfScript scripted (λ s. Performs s (Err (World fault)) old new)
Tries scripted (Err Write) old new = OfScript scripted (λ s. Performs s (Err Write) old new)
Tries scripted (Err Memory) old new = Keeps old new

-- THE FAULT OF A TRIAL of a text that was not made: why it is no script, or the place of the move that cannot be
-- made
abbrev pub IsNoTrialFault : TextRead → TrialFault → Fault → Type 0
IsNoTrialFault t (Read failed) told = told ≡ of_trial (Read failed)
IsNoTrialFault t (Script fault) told = Refuses t fault told
IsNoTrialFault t (World fault) told = Stopped t fault told
IsNoTrialFault t Write told = told ≡ of_trial Write
IsNoTrialFault t Memory told = told ≡ of_trial Memory

-- the status of a trial: 0 for yes
abbrev pub Answers : TextRead → Result Bool TrialFault → Result ℕ Fault → Type 0
Answers t (Ok true) answered = answered ≡ Ok 0
Answers t (Ok false) answered = answered ≡ Ok 1
Answers t (Err fault) answered = (told : Fault) × IsNoTrialFault t fault told × (answered ≡ Err told)

-- the effect of a trial: its text is written, with status 0, or there is a fault
abbrev pub GivesTrial : TextRead → (answered : Result ℕ Fault) → (old new : Option (List ℕ)) → Type 0
GivesTrial t answered old new = (tried : Result Bool TrialFault) × Tries t.scripted tried old new × Answers t tried answered

-- THE TRIAL OF A SCRIPT of standard input, whose bytes are these if they are known
abbrev pub TriesInput : (known : Option (List ℕ)) → Result ℕ Fault → (out : Stream) → Type 0
TriesInput known answered out = (text : List ℕ) × Has known text × GivesTrial (text_read text) answered out.old out.new
