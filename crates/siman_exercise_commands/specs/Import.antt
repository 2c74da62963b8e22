-- What `import` makes of a setup and a capture, and how it ends (profile).
use Rattle.std.specs.Prelude.{◌≡◌, ◌⊎◌, ⊤, ℕ, nat_lt, List, [], ◌∷◌, ◌++◌, length, drop, codes, string_bytes, Bool, Option, Some, None, IfSome, Result, Ok, Err, if◌then◌else◌}
use Rattle.std.specs.List.{flat_map}
use Rattle.std.specs.Option.{option_map_or}
use Rattle.std.specs.Io.KnownBytes.{Keeps}
use Rattle.dis_records.specs.declared.address.SiteApplication.{SiteApplication}
use Rattle.dis_records.specs.declared.entity.EntityId.{EntityId}
use Rattle.packet_captures.specs.declared.host.Host.{Host}
use Rattle.dis_records.specs.declared.entity_state.EntityState.{EntityState}
use Rattle.dis_records.specs.Texts.{entity_text}
use Rattle.byte_files.specs.Fields.{◌>>=◌}
use Rattle.packet_captures.specs.Capture.{PlainCapture, capture_of}
use Rattle.exercise_model.specs.Station.{StationData}
use Rattle.exercise_model.specs.Recording.{PlainRecording}
use Rattle.exercise_recording.specs.declared.format_fault.FormatFault.{FormatFault}
use Rattle.exercise_recording.specs.Reading.{recording_at}
use Rattle.exercise_recording.specs.Text.{head_text}
use Rattle.exercise_recording.specs.Captures.Entries.{recording_with}
use Rattle.exercise_recording.specs.declared.captures.import_fault.ImportFault.{ImportFault}
use Rattle.exercise_recording.specs.declared.captures.import_fault.ImportFault.TheVariants as imports
use Rattle.exercise_recording.specs.declared.captures.packet_rule.PacketRule.{PacketRule}
use Rattle.exercise_recording.specs.Captures.Faults.{of_bytes}
use Rattle.exercise_recording.specs.Captures.Answers.{Fails}
use Rattle.exercise_recording.specs.Captures.Import.{ImportData, MadeData, import_of, made_of}
use Rattle.siman_scripts.specs.declared.script_fault.ScriptFault.TheVariants as scripts
use Rattle.siman_scripts.specs.Script.{ScriptData}
use Rattle.siman_scripts.specs.Statement.{address_of}
use Rattle.siman_scripts.specs.Stations.{WorldStationData}
use Rattle.siman_operator.specs.Scripted.{station_at}
use Rattle.siman_print.specs.Line.{Line, Field, Number, Word, Bare, Keyed, named_line}
use Rattle.siman_print.specs.Spelled.{line_text}
use Rattle.siman_outside.specs.declared.fault.Fault.{Fault}
use Rattle.siman_outside.specs.declared.fault.Fault.TheVariants as faults
use Rattle.siman_outside.specs.declared.fault.Fault.TheVariants.{BadLine, UnknownStation, ScriptRead, NotInImport, Memory}
use Rattle.siman_outside.specs.declared.product.Product.{Product}
use Rattle.siman_outside.specs.declared.product.Product.TheVariants.{File, Nothing}
use Rattle.siman_outside.specs.Ending.{fault_text}
use Rattle.siman_outside.specs.Hosts.{NamesHost}
use Rattle.siman_outside.specs.ImportWords.{Choices, choices_by}
use Rattle.siman_outside.specs.declared.import_words.ImportOpening.{ImportOpening}
use Rattle.siman_outside.specs.declared.import_words.ImportOpening.TheVariants as openings
use Rattle.siman_outside.specs.declared.limits.TheConstants.{LARGEST_RECORDING}
use Rattle.siman_outside.specs.Making.{Answered, MakesProduct, PutsBoth}
use Rattle.siman_outside.specs.Opening.{MakesOfFiles}
use Rattle.siman_outside.specs.Outside.{Given, Stream, Deed}
use Rattle.siman_outside.specs.Words.{ImportAsked}
use Rattle.siman_exercise_commands.specs.declared.imported_file.ImportedFile.{ImportedFile}
use Rattle.siman_exercise_commands.specs.declared.import.Importing.{Importing}
use Rattle.siman_exercise_commands.specs.declared.import.TheConstants.{USUAL_PORT, ROOM}
use Rattle.siman_exercise_commands.specs.Assumed.{assumed_in, with_all_stopped}
use Rattle.siman_exercise_commands.specs.Explained.{TextRead, text_read, GivesWhy}

-- ---- what the words ask for

-- the address of the station, its host, and how the capture is read
pub record ImportingData : Type 0 where
  pub address : SiteApplication
  pub host : Host
  pub choices : Choices

abbrev pub importing_of : Importing → ImportingData
importing_of i = record { address = i.address; host = i.host; choices = choices_by i.choices }

-- the rule by which packets become entries
abbrev pub rule_of : (exercise : ℕ) → ImportingData → PacketRule
rule_of exercise i = record {
  host = i.host;
  port = option_map_or (λ port. port) i.choices.port USUAL_PORT;
  exercise = exercise;
  address = i.address;
  keeps_cut = i.choices.keeps_cut;
  is_shared = i.choices.is_shared;
  hears_itself = i.choices.hears_itself;
}

-- the station as it opens: as the setup says, or with no entity
abbrev pub opened_as : Option ImportOpening → StationData → StationData
opened_as None s = s
opened_as (Some openings.Nothing) s = record { address = s.address; opening = [] }
opened_as (Some openings.Assumed) s = s

-- ---- what the log assumes

-- the entities with which the first station opens
abbrev pub first_opening : List StationData → List (ℕ × EntityState)
first_opening [] = []
first_opening (o ∷ os) = o.opening

-- THE ENTITIES THAT A RECORDING ASSUMES, as its file is read
abbrev pub assumed_as_read : Result PlainRecording FormatFault → List ℕ
assumed_as_read (Ok r) = assumed_in r (first_opening r.setting.stations)
assumed_as_read (Err fault) = []

abbrev pub assumed_of : MadeData → List ℕ
assumed_of m = assumed_as_read (recording_at LARGEST_RECORDING m.text)

-- the head of its file where the station opens with these entities, stopped, too
abbrev pub assuming_head : (exercise : ℕ) → StationData → List ℕ → List ℕ
assuming_head exercise o es = head_text (recording_with exercise (record { address = o.address; opening = with_all_stopped es o.opening }) []).setting

-- THE FILE: as it was made; or with another head, where the station opens with what its log assumes
abbrev pub file_text : Option ImportOpening → (exercise : ℕ) → StationData → MadeData → List ℕ
file_text None exercise o m = m.text
file_text (Some openings.Nothing) exercise o m = m.text
file_text (Some openings.Assumed) exercise o m = assuming_head exercise o (assumed_of m) ++ drop m.start m.text

-- it is not too long
abbrev pub fitting : Option ImportOpening → (exercise : ℕ) → StationData → ImportData → Result ImportData ImportFault
fitting None exercise o d = Ok d
fitting (Some openings.Nothing) exercise o d = Ok d
fitting (Some openings.Assumed) exercise o d =
    if nat_lt LARGEST_RECORDING (length (file_text (Some openings.Assumed) exercise o (made_of d))) then Err imports.Size else Ok d

-- ---- the answer

-- imported packets=N records=N sent=N received=N echoes=N other=N elsewhere=N passing=N shared=N fragments=N cut=N
-- dropped=N bundled=N
abbrev pub entry_fields : MadeData → List Field
entry_fields m =
    Keyed (codes "packets") (Number m.counts.packets) ∷ Keyed (codes "records") (Number m.records)
    ∷ Keyed (codes "sent") (Number m.counts.sent) ∷ Keyed (codes "received") (Number m.counts.received) ∷ Keyed (codes "echoes") (Number m.counts.echoes) ∷ []

abbrev pub other_fields : MadeData → List Field
other_fields m =
    Keyed (codes "other") (Number m.counts.other) ∷ Keyed (codes "elsewhere") (Number m.counts.elsewhere) ∷ Keyed (codes "passing") (Number m.counts.passing)
    ∷ Keyed (codes "shared") (Number m.counts.shared) ∷ Keyed (codes "fragments") (Number m.counts.fragments) ∷ Keyed (codes "cut") (Number m.counts.cut)
    ∷ Keyed (codes "dropped") (Number m.dropped) ∷ Keyed (codes "bundled") (Number m.counts.bundled) ∷ []

-- of an entity that the log assumes: assumed S:A:E stopped
abbrev pub assumed_line : EntityId → Line
assumed_line id = named_line (codes "assumed") (Bare (codes "entity") (Word (entity_text id)) ∷ Bare (codes "state") (Word (codes "stopped")) ∷ [])

abbrev pub assumed_lines : SiteApplication → List ℕ → List ℕ
assumed_lines a es = flat_map (λ e. line_text (assumed_line (record { site = a.site; application = a.application; entity = e }))) es

abbrev pub counted_line : MadeData → List ℕ
counted_line m = line_text (named_line (codes "imported") (entry_fields m ++ other_fields m))

-- THE ANSWER
abbrev pub imported_text : Option ImportOpening → SiteApplication → MadeData → List ℕ
imported_text None a m = counted_line m
imported_text (Some openings.Nothing) a m = counted_line m
imported_text (Some openings.Assumed) a m = counted_line m ++ assumed_lines a (assumed_of m)

-- ---- what is made of a setup and a capture

-- what a capture gives by a rule for a station, in a file that is not too long
abbrev pub given_for : Option ImportOpening → PacketRule → StationData → PlainCapture → Result ImportData ImportFault
given_for opening rule o c = import_of rule ROOM o c >>= fitting opening rule.exercise o

-- WHAT A CAPTURE WITH THESE BYTES GIVES for a station of a script
abbrev pub import_given : ImportingData → ScriptData → WorldStationData → (capture : List ℕ) → Result ImportData ImportFault
import_given i s w capture = given_for i.choices.opening (rule_of s.exercise i) (opened_as i.choices.opening w.station) (capture_of i.choices.interface capture)

-- the fault of a command for one of the capture or of a limit
abbrev pub IsImportFault : ImportFault → Fault → Type 0
IsImportFault imports.Memory fault = fault ≡ Memory
IsImportFault why fault = fault ≡ faults.Import why

-- the file as it is written: a head of its own and what stands behind that of the file that was made, or that whole
abbrev pub written_text : ImportedFile → List ℕ
written_text f = f.head.items ++ drop f.start f.made.text

-- The file and the line are those of what was made, for a station and by a rule.
pub record IsFileOf (opening : Option ImportOpening) (rule : PacketRule) (o : StationData) (f : ImportedFile) : Type 0 where
  pub text : written_text f ≡ file_text opening rule.exercise o f.made
  pub line : string_bytes f.line ≡ imported_text opening o.address f.made

-- its file, or that it is too long
abbrev pub FilesOf : Option ImportOpening → PacketRule → StationData → MadeData → Result ImportedFile Fault → Type 0
FilesOf opening rule o m (Ok file) = (file.made ≡ m) × IsFileOf opening rule o file × ((d : ImportData) → m ≡ made_of d → fitting opening rule.exercise o d ≡ Ok d)
FilesOf opening rule o m (Err (faults.Import imports.Size)) = (d : ImportData) → m ≡ made_of d → fitting opening rule.exercise o d ≡ Err imports.Size
FilesOf opening rule o m (Err Memory) = ⊤
FilesOf opening rule o m (Err other) = ⊥

-- the recording of a station by a rule, or the fault
abbrev pub GivesFile : Option ImportOpening → PacketRule → StationData → (name capture : Option (List ℕ)) → Result ImportedFile Fault → Type 0
GivesFile opening rule o name capture (Ok file) =
    IfSome capture (λ b. (d : ImportData) × (given_for opening rule o (capture_of name b) ≡ Ok d) × (file.made ≡ made_of d)) × IsFileOf opening rule o file
GivesFile opening rule o name capture (Err (faults.Import imports.Memory)) = ⊥
GivesFile opening rule o name capture (Err (faults.Import fault)) = IfSome capture (λ b. Fails (of_bytes fault) (given_for opening rule o (capture_of name b)))
GivesFile opening rule o name capture (Err Memory) = ⊤
GivesFile opening rule o name capture (Err other) = ⊥

-- The setup is a script that has the station.
pub record HasStation (i : ImportingData) (t : TextRead) (s : ScriptData) (w : WorldStationData) : Type 0 where
  pub script : t.scripted ≡ Ok s
  pub found : station_at i.address s.stations ≡ Some w

-- THE RECORDING IS MADE that the capture gives for the station of the setup, with its file and its answer
abbrev pub IsImported : ImportingData → TextRead → (capture : Option (List ℕ)) → ImportedFile → Type 0
IsImported i t capture file =
    (s : ScriptData) × (w : WorldStationData) × HasStation i t s w
    × IfSome capture (λ b. (given : ImportData) × (import_given i s w b ≡ Ok given) × (file.made ≡ made_of given))
    × IsFileOf i.choices.opening (rule_of s.exercise i) (opened_as i.choices.opening w.station) file

-- no recording is made of the capture, for this fault of its bytes or of a limit; a failed read may end it at any time
abbrev pub IsNotImported : ImportingData → TextRead → (capture : Option (List ℕ)) → ImportFault → Type 0
IsNotImported i t capture fault =
    (s : ScriptData) × (w : WorldStationData) × HasStation i t s w × IfSome capture (λ b. Fails (of_bytes fault) (import_given i s w b))

-- WHY NO RECORDING IS MADE: the first refused line of the setup, or it has no such station; or the setup could not be
-- read; or the fault of the capture; or memory ran out, which may happen at any time
abbrev pub ImportsNone : ImportingData → TextRead → (capture : Option (List ℕ)) → Fault → Type 0
ImportsNone i t capture (BadLine line why) = t.scripted ≡ Err (scripts.BadLine line)
ImportsNone i t capture (UnknownStation line why) = t.scripted ≡ Err (scripts.UnknownStation line)
ImportsNone i t capture (ScriptRead failed) = ⊤
ImportsNone i t capture NotInImport = (s : ScriptData) × (t.scripted ≡ Ok s) × (station_at i.address s.stations ≡ None)
ImportsNone i t capture (faults.Import imports.Memory) = ⊥
ImportsNone i t capture (faults.Import fault) = IsNotImported i t capture fault
ImportsNone i t capture Memory = ⊤
ImportsNone i t capture other = ⊥

abbrev pub ImportsText : ImportingData → TextRead → (capture : Option (List ℕ)) → Result ImportedFile Fault → Type 0
ImportsText i t capture (Ok file) = IsImported i t capture file
ImportsText i t capture (Err fault) = ImportsNone i t capture fault × GivesWhy t fault

-- THE RESULT OF A SETUP AND A CAPTURE with these bytes, if they are known
abbrev pub ImportsFiles : ImportingData → (setup capture : Option (List ℕ)) → Result (Product ImportedFile) Fault → Type 0
ImportsFiles i setup capture (Ok (File file)) = Given setup (λ text. ImportsText i (text_read text) capture (Ok file))
ImportsFiles i setup capture (Ok (Nothing text)) = ⊥
ImportsFiles i setup capture (Err fault) = Given setup (λ text. ImportsText i (text_read text) capture (Err fault))

-- the file: its whole text, and then the line, with status 0
abbrev pub PutsImported : ImportedFile → Answered → (file out : Stream) → Type 0
PutsImported file = PutsBoth (written_text file) (string_bytes file.line)

-- ---- the words

-- the fault of a word that is no address, and of one that is no host, with the word as it was typed
abbrev pub IsAddressFault : List ℕ → Fault → Type 0
IsAddressFault word fault = fault_text fault ≡ codes "import: address " ++ word

abbrev pub IsHostFault : List ℕ → Fault → Type 0
IsHostFault word fault = fault_text fault ≡ codes "import: host " ++ word

abbrev pub FindsAddress : List ℕ → Result SiteApplication Fault → Type 0
FindsAddress word (Ok address) = address_of word ≡ Some address
FindsAddress word (Err fault) = (address_of word ≡ None) × IsAddressFault word fault

abbrev pub FindsHost : List ℕ → Result Host Fault → Type 0
FindsHost word (Ok host) = NamesHost word (Some host)
FindsHost word (Err fault) = NamesHost word None × IsHostFault word fault

-- what the words ask for; or the fault of the first of the two that is bad
abbrev pub Asks : ImportAsked → Result ImportingData Fault → Type 0
Asks asked (Ok i) = (address_of asked.address ≡ Some i.address) × NamesHost asked.host (Some i.host) × (i.choices ≡ asked.choices)
Asks asked (Err fault) =
    ((address_of asked.address ≡ None) × IsAddressFault asked.address fault)
    ⊎ ((address : SiteApplication) × (address_of asked.address ≡ Some address) × NamesHost asked.host None × IsHostFault asked.host fault)

abbrev pub AsksBy : ImportAsked → Result Importing Fault → Type 0
AsksBy asked (Ok i) = Asks asked (Ok (importing_of i))
AsksBy asked (Err fault) = Asks asked (Err fault)

-- WHAT `import` DOES: the first bad word is reported, with nothing opened; or setup and capture are opened in their order,
-- neither of which is the file to be made, before either is read, and the recording is made
abbrev pub ImportsNamed : ImportAsked → (force : Bool) → List Deed → Answered → Stream → Type 0
ImportsNamed asked force deeds answered out =
    ((fault : Fault) × Asks asked (Err fault) × (deeds ≡ []) × (answered ≡ Err fault) × Keeps out.old out.new)
    ⊎ ((i : ImportingData) × Asks asked (Ok i) × MakesOfFiles (ImportsFiles i) (MakesProduct PutsImported) force asked.setup asked.capture asked.recording deeds answered out)
