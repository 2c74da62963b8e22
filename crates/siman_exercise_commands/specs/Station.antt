-- What `station` does with a script and its words, and how it ends (profile).
use Rattle.siman_lines.specs.declared.line.PassedOver.{PassedOver}
use Rattle.std.specs.Prelude.{◌≡◌, ◌⊎◌, ⊤, ℕ, ◌+◌, Bool, true, false, List, [], ◌∷◌, ◌++◌, length, map, max, codes, is_some, Option, Some, None, Result, Ok, Err, Vec, if◌then◌else◌}
use Rattle.std.specs.declared.alloc.Global.{Global}
use Rattle.std.specs.Io.KnownBytes.{Keeps}
use Rattle.dis_records.specs.declared.address.SiteApplication.{SiteApplication}
use Rattle.siman_scripts.specs.declared.script_fault.ScriptFault.TheVariants as scripts
use Rattle.byte_files.specs.Fetching.{fetched}
use Rattle.siman_scripts.specs.declared.script.TheConstants.{LARGEST_SCRIPT}
use Rattle.siman_scripts.specs.Script.{ScriptData}
use Rattle.siman_scripts.specs.Statement.{address_of}
use Rattle.siman_scripts.specs.Stations.{WorldStationData}
use Rattle.exercise_model.specs.Recording.{opened}
use Rattle.siman_operator.specs.Clocks.{source_by, unit_by}
use Rattle.siman_operator.specs.declared.clock.WaitUnit.{WaitUnit}
use Rattle.siman_operator.specs.Posts.{IsAtLink}
use Rattle.siman_operator.specs.ShortForm.{is_short_form}
use Rattle.siman_operator.specs.declared.reading.TheConstants.{LONGEST_LINE}
use Rattle.siman_operator.specs.declared.recorded.ReadyStation.{ReadyStation}
use Rattle.siman_operator.specs.declared.scripted.SetUp.{SetUp}
use Rattle.siman_operator.specs.declared.scripted.SetUpFault.{SetUpFault}
use Rattle.siman_operator.specs.declared.scripted.SetUpFault.TheVariants as set_ups
use Rattle.siman_operator.specs.declared.session_report.SessionReport.{SessionReport}
use Rattle.siman_operator.specs.Closing.{PrintsCounts}
use Rattle.siman_operator.specs.Notes.{greeting_rows}
use Rattle.siman_operator.specs.Recorded.{open_setting, Records, IsLeft}
use Rattle.siman_operator.specs.declared.printing.PrintFault.{PrintFault}
use Rattle.siman_operator.specs.declared.printing.PrintFault.TheVariants as prints
use Rattle.siman_print.specs.Spelled.{lines_spelled}
use Rattle.siman_print.specs.declared.spelling.Spelling.TheVariants.{Text}
use Rattle.siman_operator.specs.Scripted.{IsSetUp, SetsUp}
use Rattle.siman_operator.specs.Told.{WritesMore, closed_status, closed_text}
use Rattle.siman_outside.specs.Words.{StationAsked}
use Rattle.siman_outside.specs.declared.endpoint.Endpoint.{Endpoint}
use Rattle.siman_outside.specs.declared.fault.Ended.{Ended}
use Rattle.siman_outside.specs.declared.fault.Fault.{Fault}
use Rattle.siman_outside.specs.declared.fault.Fault.TheVariants.{BadLine, UnknownStation, ScriptRead, WorldStations, LineFailed, NotInSetup, Exists, Output, Memory}
use Rattle.siman_exercise_commands.specs.declared.station.Placed.{Placed}
use Rattle.siman_outside.specs.Ending.{Ends, IsFaultOf, fault_text}
use Rattle.siman_outside.specs.Endpoints.{endpoint_of}
use Rattle.siman_outside.specs.Opening.{IsOpenFault}
use Rattle.siman_outside.specs.Outside.{Has, Stream, Outcome, Deed, Saved, Opens, Reads, LooksFor, Binds, Creates, Leaves}
use Rattle.siman_exercise_commands.specs.Live.{IsCreationFault}
use Rattle.siman_exercise_commands.specs.Explained.{Scripted, TextRead, text_read, GivesReason}
use Rattle.std.specs.Result.{result_err}

-- Words.

-- the first word that is no endpoint
abbrev pub bad_endpoint : List (List ℕ) → Option (List ℕ)
bad_endpoint [] = None
bad_endpoint (word ∷ words) = if is_some (endpoint_of word) then bad_endpoint words else Some word

-- THE FIRST WORD THAT IS NO ADDRESS: the station's own, that of its socket, that of a peer
abbrev pub bad_word : StationAsked → Option (List ℕ)
bad_word asked = if is_some (address_of asked.address) then bad_endpoint (asked.bind ∷ asked.peers) else Some asked.address

-- its fault: `station: address WORD` with the word as it was typed
abbrev pub IsAddressFault : List ℕ → Fault → Type 0
IsAddressFault word fault = fault_text fault ≡ codes "station: address " ++ word

abbrev pub FindsAddress : List ℕ → Result SiteApplication Fault → Type 0
FindsAddress word (Ok address) = address_of word ≡ Some address
FindsAddress word (Err fault) = (address_of word ≡ None) × IsAddressFault word fault

abbrev pub FindsEndpoint : List ℕ → Result Endpoint Fault → Type 0
FindsEndpoint word (Ok endpoint) = endpoint_of word ≡ Some endpoint
FindsEndpoint word (Err fault) = (endpoint_of word ≡ None) × IsAddressFault word fault

abbrev pub FindsEndpoints : List (List ℕ) → Result (Vec Endpoint Global) Fault → Type 0
FindsEndpoints words (Ok endpoints) = map endpoint_of words ≡ map Some endpoints.items
FindsEndpoints words (Err fault) = (fault ≡ Memory) ⊎ ((word : List ℕ) × (bad_endpoint words ≡ Some word) × IsAddressFault word fault)

-- THE WORDS NAME the address and the endpoints of the station and its peers, and its recording; and there is a
-- buffer for a line of text
pub record IsPlaced (asked : StationAsked) (placed : Placed) : Type 0 where
  pub address : address_of asked.address ≡ Some placed.address
  pub bind : endpoint_of asked.bind ≡ Some placed.bind
  pub peers : map endpoint_of asked.peers ≡ map Some placed.peers.items
  pub listening : placed.listening ≡ asked.listening
  pub by_system : placed.by_system ≡ asked.by_system
  pub name : placed.name.now ≡ asked.recording
  pub room : length placed.room.items ≡ LONGEST_LINE + 1

-- the places that the words name; or the fault of one that is no address; or memory ran out, which may happen at
-- any time
abbrev pub Places : StationAsked → Result Placed Fault → Type 0
Places asked (Ok placed) = IsPlaced asked placed
Places asked (Err fault) = (fault ≡ Memory) ⊎ ((word : List ℕ) × (bad_word asked ≡ Some word) × IsAddressFault word fault)

-- The script.

-- the fault of a station of a script that was not set up
abbrev pub of_set_up : SetUpFault → Fault
of_set_up set_ups.NotInSetup = NotInSetup
of_set_up set_ups.Stations = WorldStations
of_set_up set_ups.Memory = Memory

-- WHY THE STATION OF A SCRIPT AT AN ADDRESS IS NOT SET UP: the first refused line of the script, no station there,
-- or one that a world cannot have; or the script could not be read; or memory ran out, which may happen at any time
abbrev pub SetsUpNone : Scripted → (address : SiteApplication) → WaitUnit → Fault → Type 0
SetsUpNone scripted address unit (BadLine line why) = scripted ≡ Err (scripts.BadLine line)
SetsUpNone scripted address unit (UnknownStation line why) = scripted ≡ Err (scripts.UnknownStation line)
SetsUpNone scripted address unit (ScriptRead failed) = ⊤
SetsUpNone scripted address unit NotInSetup = (s : ScriptData) × (scripted ≡ Ok s) × SetsUp s address unit (Err set_ups.NotInSetup)
SetsUpNone scripted address unit WorldStations = (s : ScriptData) × (scripted ≡ Ok s) × SetsUp s address unit (Err set_ups.Stations)
SetsUpNone scripted address unit Memory = ⊤
SetsUpNone scripted address unit other = ⊥

abbrev pub SetsUpText : Scripted → (address : SiteApplication) → WaitUnit → Result SetUp Fault → Type 0
SetsUpText scripted address unit (Ok set_up) = (s : ScriptData) × (scripted ≡ Ok s) × SetsUp s address unit (Ok set_up)
SetsUpText scripted address unit (Err fault) = SetsUpNone scripted address unit fault

-- a station is set up from what was read of a text; or the reason why there is none
abbrev pub SetsUpRead : TextRead → (address : SiteApplication) → WaitUnit → Result SetUp Fault → Type 0
SetsUpRead t address unit set_up = SetsUpText t.scripted address unit set_up × GivesReason t set_up

-- a station is set up from a file with these bytes, if they are known; by the system's clock its wait counts
-- milliseconds, and in the short form it is a second
abbrev pub SetsUpFile : (known : Option (List ℕ)) → (address : SiteApplication) → (by_system : Bool) → Result SetUp Fault → Type 0
SetsUpFile known address by_system set_up =
    (text : List ℕ) × Has known text × SetsUpRead (text_read text) address (unit_by by_system (is_short_form address (fetched LARGEST_SCRIPT text))) set_up

-- a station of some script was set up
abbrev pub IsOfScript : SetUp → Type 0
IsOfScript set_up = (exercise : ℕ) × (addresses : List SiteApplication) × (s : WorldStationData) × IsSetUp exercise addresses s set_up

-- The exercise.

-- the output of entries and that of faults
pub record Streams : Type 0 where
  pub out : Stream
  pub errors : Stream

-- the result of a session, or the fault that prevented it
abbrev pub Played : Type 0
Played = Result SessionReport Fault

-- nothing more is done, printed or reported
abbrev pub PlaysNone : Fault → List Deed → Played → Streams → Type 0
PlaysNone fault deeds played s = (deeds ≡ []) × (played ≡ Err fault) × Keeps s.out.old s.out.new × Keeps s.errors.old s.errors.new

-- a file that was not settled on the disk is a failed write
abbrev pub closed_by : Saved → Result (Unit {0}) PrintFault
closed_by (Ok x) = Ok tt
closed_by (Err kind) = Err prints.Write

-- where the file was not settled on the disk, that is reported behind the report of the session
abbrev pub ReportsSettled : Saved → (told after : SessionReport) → (old new : Option (List ℕ)) → Type 0
ReportsSettled settled told after old new =
    (after.status ≡ max told.status (closed_status (closed_by settled))) × WritesMore told.written after.written old new (closed_text (closed_by settled))

-- A FILE IS CREATED, in which the station records what it does with the lines of standard input, and is closed
abbrev pub CreatesPlayed : {L : Type 0} → (passed : L → PassedOver) → ReadyStation L → (name : List ℕ) → (input : Option (List ℕ)) → List Deed → Played → Streams → Type 0
CreatesPlayed passed ready name input (Creates made (Err kind) ∷ []) played s =
    (made ≡ name) × ((fault : Fault) × IsCreationFault kind fault × PlaysNone fault [] played s)
CreatesPlayed passed ready name input (Creates made (Ok fresh) ∷ Leaves left settled ∷ []) played s =
    (made ≡ name)
    × ((told : SessionReport) × (errors : Option (List ℕ)) × Records passed input ready fresh left s.out.old s.out.new s.errors.old errors told
    × IsLeft (open_setting ready.head) ready.station.node.application.outfit told.status fresh left
    × ((after : SessionReport) × (played ≡ Ok after) × ReportsSettled settled told after errors s.errors.new))
CreatesPlayed passed ready name input deeds played s = ⊥

-- the fault of a session whose first notes could not be printed
abbrev pub of_print : PrintFault → Fault
of_print prints.Write = Output
of_print prints.Memory = Memory

-- the first notes of a station's session
abbrev pub greeting_text : SiteApplication → (buffer : Option ℕ) → List ℕ
greeting_text address buffer = lines_spelled Text (greeting_rows address buffer)

-- THE SESSION IS GREETED: its first notes are printed, and then its file is created; if they could not be printed,
-- none is
abbrev pub GreetsAndCreates : {L : Type 0} → (passed : L → PassedOver) → ReadyStation L → (name : List ℕ) → (input : Option (List ℕ)) → List Deed → Played → Streams → Type 0
GreetsAndCreates passed ready name input deeds played s =
    (buffer : Option ℕ)
    × (((fault : PrintFault) × PrintsCounts (greeting_text ready.address buffer) s.out.old s.out.new (Err fault) × (deeds ≡ []) × (played ≡ Err (of_print fault)) × Keeps s.errors.old s.errors.new)
    ⊎ ((mid : Option (List ℕ)) × PrintsCounts (greeting_text ready.address buffer) s.out.old mid (Ok tt)
    × CreatesPlayed passed ready name input deeds played (record { out = record { old = mid; new = s.out.new }; errors = s.errors })))

-- THE STATION IS ATTACHED TO ITS LINK as it was set up, among the stations of its script; it is not if memory runs
-- out
abbrev pub IsAttached : {L : Type 0} → (passed : L → PassedOver) → SetUp → (address : SiteApplication) → (by_system : Bool) → (name : List ℕ) → (input : Option (List ℕ)) → List Deed → Played → Streams → Type 0
IsAttached {L} passed set_up address by_system name input deeds played s =
    PlaysNone Memory deeds played s
    ⊎ ((ready : ReadyStation L) × (ready.head ≡ set_up.head) × (ready.log ≡ opened (open_setting set_up.head)) × IsAtLink set_up.node ready.station × (ready.address ≡ address)
    × (ready.stations ≡ set_up.stations) × (ready.source ≡ source_by by_system set_up.wait) × GreetsAndCreates passed ready name input deeds played s)

-- ITS LINK is requested, with the endpoints that the words name; if there is none, the fault is `live: line`, or
-- that memory ran out
abbrev pub HasLine : {L : Type 0} → (passed : L → PassedOver) → SetUp → Placed → (name : List ℕ) → (input : Option (List ℕ)) → List Deed → Played → Streams → Type 0
HasLine passed set_up placed name input (Binds bind peers listening (Err kind) ∷ deeds) played s =
    (bind ≡ placed.bind) × (peers ≡ placed.peers.items) × (listening ≡ placed.listening)
    × ((fault : Fault) × IsFaultOf kind LineFailed fault × PlaysNone fault deeds played s)
HasLine passed set_up placed name input (Binds bind peers listening (Ok x) ∷ deeds) played s =
    (bind ≡ placed.bind) × (peers ≡ placed.peers.items) × (listening ≡ placed.listening) × IsAttached passed set_up placed.address placed.by_system name input deeds played s
HasLine passed set_up placed name input deeds played s = ⊥

-- A FILE OF THE RECORDING'S NAME EXISTS: nothing is done, and no link is requested
abbrev pub PlaysSetUp : {L : Type 0} → (passed : L → PassedOver) → SetUp → Placed → (name : List ℕ) → (input : Option (List ℕ)) → List Deed → Played → Streams → Type 0
PlaysSetUp passed set_up placed name input (LooksFor looked true ∷ deeds) played s = (looked ≡ name) × PlaysNone Exists deeds played s
PlaysSetUp passed set_up placed name input (LooksFor looked false ∷ deeds) played s =
    (looked ≡ name) × HasLine passed set_up placed name input deeds played s
PlaysSetUp passed set_up placed name input deeds played s = ⊥

-- THE SCRIPT IS OPENED and read, and its station set up
abbrev pub PlaysFile : {L : Type 0} → (passed : L → PassedOver) → StationAsked → Placed → (input : Option (List ℕ)) → List Deed → Played → Streams → Type 0
PlaysFile passed asked placed input (Opens opened (Err kind) ∷ deeds) played s =
    (opened ≡ asked.setup) × ((fault : Fault) × IsOpenFault asked.setup kind fault × PlaysNone fault deeds played s)
PlaysFile passed asked placed input (Opens opened (Ok known) ∷ Reads read ∷ deeds) played s =
    (opened ≡ asked.setup) × (read ≡ known)
    × (((fault : Fault) × SetsUpFile known placed.address placed.by_system (Err fault) × PlaysNone fault deeds played s)
    ⊎ ((set_up : SetUp) × SetsUpFile known placed.address placed.by_system (Ok set_up) × PlaysSetUp passed set_up placed asked.recording input deeds played s))
PlaysFile passed asked placed input deeds played s = ⊥

-- THE END OF `station`: the result of its session, or its fault, which is then reported
abbrev pub EndsPlayed : Played → Ended → (old new : Option (List ℕ)) → Type 0
EndsPlayed (Ok told) ended old new = (ended.status ≡ told.status) × (ended.written ≡ told.written) × (new ≡ old)
EndsPlayed (Err fault) ended old new = Ends (Err fault) ended old new

-- the fault that prevented a session
abbrev pub played_fault : Played → Option Fault
played_fault played = result_err played

-- the effect of `station`: nothing, if a word is no address. The session itself reports a recording that it began
-- and could not end.
abbrev pub EndsStation : {L : Type 0} → (passed : L → PassedOver) → StationAsked → List Deed → (input : Option (List ℕ)) → Outcome → Type 0
EndsStation passed asked deeds input o =
    (o.begun ≡ None)
    × (((fault : Fault) × Places asked (Err fault) × (deeds ≡ []) × Keeps o.out.old o.out.new × Ends (Err fault) o.ended o.errors.old o.errors.new × (o.fault ≡ Some fault))
    ⊎ ((placed : Placed) × (played : Played) × (mid : Option (List ℕ)) × IsPlaced asked placed
    × (let s : Streams = record { out = o.out; errors = record { old = o.errors.old; new = mid } } in PlaysFile passed asked placed input deeds played s)
    × EndsPlayed played o.ended mid o.errors.new × (o.fault ≡ played_fault played)))
