-- The ending of the program, from the words of its command line to its exit status.
use Rattle.std.specs.Prelude.{◌≡◌, ◌⊎◌, ℕ, List, [], Option, Some, None, Result, Ok, Err, map, string_bytes, Vec, String, Bool, true, false}
use Rattle.std.specs.declared.alloc.Global.{Global}
use Rattle.std.specs.Io.KnownBytes.{Keeps}
use Rattle.std.specs.declared.io.ErrorKind.{ErrorKind}
use Rattle.byte_files.specs.Text.{lines_of}
use Rattle.siman_outside.specs.declared.commands.NoWord.{NoWord}
use Rattle.siman_outside.specs.declared.commands.OneWord.{OneWord}
use Rattle.siman_outside.specs.declared.commands.Reading.{Reading}
use Rattle.siman_outside.specs.declared.commands.TwoWords.{TwoWords}
use Rattle.siman_outside.specs.Words.{Asked, Trial, Bare, One, Two, View, asked}
use Rattle.siman_outside.specs.Helping.{asks_help}
use Rattle.siman_outside.specs.Words as asks
use Rattle.siman_lines.specs.AtLines.{Telling}
use Rattle.siman_outside.specs.declared.fault.Ended.{Ended}
use Rattle.siman_outside.specs.declared.fault.Fault.{Fault}
use Rattle.siman_outside.specs.declared.notes.Warning.{Warning}
use Rattle.siman_outside.specs.Reasons.{Explains}
use Rattle.siman_outside.specs.declared.fault.Fault.TheVariants.{Words, Output, Memory}
use Rattle.siman_file_commands.specs.Answer.{said_of_hex, IsSaid}
use Rattle.siman_file_commands.specs.Audit.{SearchesFile, PutsSequence}
use Rattle.siman_analysis_commands.specs.Chart.{ChartsNamed}
use Rattle.siman_file_commands.specs.Check.{ChecksCertificate}
use Rattle.siman_file_commands.specs.Convert.{CarriesFile, PutsConverted}
use Rattle.siman_file_commands.specs.Export.{ExportsFile, PutsExported}
use Rattle.siman_outside.specs.Ending.{Ends, fault_in, IsFaultOf}
use Rattle.siman_outside.specs.Outside.{Has, Stream, Outcome, Deed}
use Rattle.siman_file_commands.specs.Join.{JoinsPieces}
use Rattle.siman_exercise_commands.specs.Import.{ImportsNamed}
use Rattle.siman_exercise_commands.specs.Live.{EndsLive}
use Rattle.siman_outside.specs.Making.{Answered, MakesProduct}
use Rattle.siman_file_commands.specs.Mend.{MendsFile, PutsMended}
use Rattle.siman_outside.specs.Opening.{MakesOfFile}
use Rattle.siman_file_commands.specs.Pdus.{EndsLines}
use Rattle.siman_analysis_commands.specs.View.{ViewsNamed, ProseNamed}
use Rattle.siman_outside.specs.Recorded.{SaysOfBytes, SaysOfBoth}
use Rattle.siman_outside.specs.Saying.{SaysOfFile, SaysOfFiles}
use Rattle.siman_file_commands.specs.Show.{ShowsRecording}
use Rattle.siman_exercise_commands.specs.Plan.{PlansNamed}
use Rattle.siman_exercise_commands.specs.ScriptTrial.{TriesInput}
use Rattle.siman_exercise_commands.specs.Station.{EndsStation}
use Rattle.siman_file_commands.specs.Why.{WhyNamed}
use Rattle.siman_exercise_commands.specs.World.{RunsFile, PutsWorld}

-- WHAT A COMMAND DOES: the files that it opens and makes, in their order, its answer or fault, and its output
abbrev pub DoesOne : OneWord → (word : List ℕ) → Reading → List Deed → Answered → Stream → Type 0
DoesOne OneWord.Pdu hex reading deeds answered out = (deeds ≡ []) × IsSaid (said_of_hex hex) answered out.old out.new
DoesOne OneWord.Show recording reading deeds answered out = SaysOfFile (SaysOfBytes reading ShowsRecording) recording deeds answered out

-- the ending with this answer or fault, and with no recording begun
abbrev pub EndsIn : Answered → Outcome → Type 0
EndsIn answered o = Ends answered o.ended o.errors.old o.errors.new × (o.fault ≡ fault_in answered) × (o.begun ≡ None)

-- the ending of a command: the status of its answer, or of its fault, which is then written
abbrev pub EndsAs : (Answered → Stream → Type 0) → Outcome → Type 0
EndsAs Tells o = (answered : Answered) × Tells answered o.out × EndsIn answered o

-- the ending of a command with two words
abbrev pub EndsTwo : {L : Type 0} → Telling L → TwoWords → (first second : List ℕ) → (force : Bool) → Reading → List Deed → Outcome → Type 0
EndsTwo told TwoWords.Check recording certificate force reading deeds o = EndsAs (SaysOfFiles (SaysOfBoth reading ChecksCertificate) recording certificate deeds) o
EndsTwo told TwoWords.Audit recording certificate force reading deeds o = EndsAs (MakesOfFile (SearchesFile reading) (MakesProduct PutsSequence) force recording certificate deeds) o
EndsTwo told TwoWords.World script recording force reading deeds o = EndsAs (MakesOfFile RunsFile (MakesProduct PutsWorld) force script recording deeds) o
EndsTwo told TwoWords.Live script recording force reading deeds o = EndsLive told script recording deeds o
EndsTwo told TwoWords.Convert old new force reading deeds o = EndsAs (MakesOfFile CarriesFile (MakesProduct PutsConverted) force old new deeds) o
EndsTwo told TwoWords.Mend old new force reading deeds o = EndsAs (MakesOfFile MendsFile (MakesProduct PutsMended) force old new deeds) o
EndsTwo told TwoWords.Export recording new force reading deeds o = EndsAs (MakesOfFile (ExportsFile reading) (MakesProduct PutsExported) force recording new deeds) o

-- the ending of a command without words, which reads standard input with these bytes, if they are known
abbrev pub EndsBare : NoWord → Option (List ℕ) → Outcome → Type 0
EndsBare NoWord.Pdus input o = ((bytes : List ℕ) × Has input bytes × EndsLines (lines_of bytes) o) × (o.begun ≡ None)

-- HOW A TASK ENDS
abbrev pub EndsTask : {L : Type 0} → Telling L → Asked → List Deed → Option (List ℕ) → Outcome → Type 0
EndsTask told Trial deeds input o = (deeds ≡ []) × EndsAs (TriesInput input) o
EndsTask told (Bare command) deeds input o = (deeds ≡ []) × EndsBare command input o
EndsTask told (One command word reading) deeds input o = EndsAs (DoesOne command word reading deeds) o
EndsTask told (Two command first second force reading) deeds input o = EndsTwo told command first second force reading deeds o
EndsTask told (asks.Join pieces made choices force) deeds input o = EndsAs (JoinsPieces pieces force made choices deeds) o
EndsTask told (asks.Import words force) deeds input o = EndsAs (ImportsNamed words force deeds) o
EndsTask told (asks.Station words) deeds input o = EndsStation told.passed words deeds input o
EndsTask told (View view recording filters spelling reading) deeds input o = EndsAs (ViewsNamed view spelling reading recording filters deeds) o
EndsTask told (asks.Prose recording filters reading) deeds input o = EndsAs (ProseNamed reading recording filters deeds) o
EndsTask told (asks.Why recording certificate spelling reading) deeds input o = EndsAs (WhyNamed spelling reading recording certificate deeds) o
EndsTask told (asks.Plan source script spelling force) deeds input o = EndsAs (PlansNamed source script spelling force deeds) o
EndsTask told (asks.Chart recording certificate picture words force reading) deeds input o = EndsAs (ChartsNamed reading recording certificate picture words force deeds) o

-- HOW WORDS WITHOUT A TASK END: with lack of memory, with the help that they ask for, or with status 2 as a fault of usage, which writes nothing to the output
abbrev pub EndsUsage : (helps : Bool) → Outcome → Type 0
EndsUsage helps o =
    (Keeps o.out.old o.out.new × EndsIn (Err Memory) o)
    ⊎ ((helps ≡ true) × (EndsIn (Ok 0) o ⊎ EndsIn (Err Output) o))
    ⊎ ((helps ≡ false) × (o.ended.status ≡ 2) × (o.fault ≡ None) × Keeps o.out.old o.out.new)

-- WITH LACK OF MEMORY, before anything is done
abbrev pub EndsAtOnce : List Deed → Outcome → Type 0
EndsAtOnce deeds o = (deeds ≡ []) × Keeps o.out.old o.out.new × EndsIn (Err Memory) o

-- Words that give no task ask for help or break the usage, and no file is opened.
abbrev pub EndsAsked : {L : Type 0} → Telling L → Option Asked → (helps : Bool) → List Deed → Option (List ℕ) → Outcome → Type 0
EndsAsked told (Some task) helps deeds input o = EndsAtOnce deeds o ⊎ EndsTask told task deeds input o
EndsAsked told None helps deeds input o = (deeds ≡ []) × EndsUsage helps o

-- the words, or the error on reading them
abbrev pub words_by : {E : Type 0} → (E → ErrorKind) → Result (Vec (String Global) Global) E → Result (List (List ℕ)) ErrorKind
words_by kind (Ok words) = Ok (map string_bytes words.items)
words_by kind (Err error) = Err (kind error)

-- the ending for the words of a command line, the program's name first
abbrev pub EndsWords : {L : Type 0} → Telling L → List (List ℕ) → List Deed → Option (List ℕ) → Outcome → Type 0
EndsWords told words deeds input o = EndsAsked told (asked words) (asks_help words) deeds input o

-- HOW THE PROGRAM ENDS for these words, the program's name first, or without words: for lack of memory, or since a word is not UTF-8. `told` holds what its links report: datagrams, failed calls and strangers.
abbrev pub EndsProgram : {L : Type 0} → Telling L → Result (List (List ℕ)) ErrorKind → List Deed → Option (List ℕ) → Outcome → Type 0
EndsProgram told (Ok words) deeds input o = EndsWords told words deeds input o
EndsProgram told (Err kind) deeds input o =
    (deeds ≡ []) × (Keeps o.out.old o.out.new × ((fault : Fault) × IsFaultOf kind Words fault × EndsIn (Err fault) o))

-- HOW IT ENDS WITH A REASON: after that ending, the second line of a fault is written behind its first line, and the line that mends the recording that the command began; or else warnings
abbrev pub EndsExplained : (Outcome → Type 0) → Ended → (out errors reasons : Stream) → Type 0
EndsExplained Ends ended out errors reasons =
    (fault : Option Fault) × (begun : Option (List ℕ)) × (warning further : Option Warning)
    × (let o : Outcome = record { ended = ended; fault = fault; begun = begun; out = out; errors = errors } in Ends o)
    × Explains ended.written fault begun warning further reasons.old reasons.new
