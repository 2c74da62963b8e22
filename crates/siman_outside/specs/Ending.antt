-- The faults of commands, and the ending of a command (profile).
use Rattle.std.specs.Prelude.{◌≡◌, ◌≢◌, ◌⊎◌, ℕ, List, [], ◌++◌, codes, decimal, Option, Some, None, Result, Ok, Err}
use Rattle.std.specs.Io.KnownBytes.{Keeps}
use Rattle.std.specs.Result.{result_err}
use Rattle.std.specs.declared.io.ErrorKind.{ErrorKind}
use Rattle.std.specs.declared.io.ErrorKind.TheVariants.{OutOfMemory, NotFound, PermissionDenied, IsADirectory}
use Rattle.byte_files.specs.Writing.{Writes}
use Rattle.byte_files.specs.declared.output.WriteFailed.{WriteFailed}
use Rattle.exercise_recording.specs.declared.format_fault.RecordingFault.{RecordingFault}
use Rattle.exercise_recording.specs.declared.format_fault.RecordingFault.TheVariants as recordings
use Rattle.exercise_recording.specs.FaultText as recording_texts
use Rattle.exercise_recording.specs.declared.conversion.ConvertFault.{ConvertFault}
use Rattle.exercise_recording.specs.declared.conversion.ConvertFault.TheVariants as converts
use Rattle.exercise_recording.specs.declared.captures.import_fault.ImportFault.{ImportFault}
use Rattle.exercise_recording.specs.declared.captures.import_fault.ImportFault.TheVariants as imports
use Rattle.packet_captures.specs.FaultText as capture_texts
use Rattle.exercise_recording.specs.declared.mending.MendFault.{MendFault}
use Rattle.exercise_recording.specs.declared.mending.MendFault.TheVariants as mends
use Rattle.exercise_check.specs.declared.certificate_fault.CertificateFault.{CertificateFault}
use Rattle.exercise_check.specs.declared.certificate_fault.CertificateFault.TheVariants as certificates
use Rattle.exercise_check.specs.FaultText as certificate_texts
use Rattle.siman_outside.specs.declared.place.Place.{Place}
use Rattle.siman_outside.specs.declared.place.Place.TheVariants as places
use Rattle.siman_outside.specs.declared.place.Place.TheVariants.{Offset, Line, Move, PieceOffset, PieceStation, PieceEntity, Unopened}
use Rattle.siman_outside.specs.declared.unopened.OpenFault.{OpenFault}
use Rattle.siman_outside.specs.declared.unopened.OpenFault.TheVariants.{Missing, Denied, Directory, Other}
use Rattle.siman_outside.specs.declared.move_refusal.MoveRefusal.{MoveRefusal}
use Rattle.siman_outside.specs.declared.move_refusal.MoveRefusal.TheVariants as moves
use Rattle.siman_outside.specs.declared.join_limit.JoinLimit.{JoinLimit}
use Rattle.siman_outside.specs.declared.join_limit.JoinLimit.TheVariants as limits
use Rattle.siman_outside.specs.declared.fault.Fault.{Fault}
use Rattle.siman_outside.specs.declared.fault.Ended.{Ended}
use Rattle.siman_outside.specs.declared.fault.Fault.TheVariants as faults
use Rattle.siman_outside.specs.declared.fault.Fault.TheVariants.{NotBytePairs, HexLine, Input, File, Words, Recording, Already, Piece, OtherExercise, StationTwice, BackInTime, OtherOpening, Joined, Certificate, BadLine, UnknownStation, ScriptRead, WorldStations, LineFailed, StationWord, NotInSetup, ImportAddress, ImportHost, NotInImport, Filter, Step, OverLimit, ChartOverLimit, SourceLine, PlanTooLong, Output, SameAs, Exists, Memory}
use Rattle.siman_outside.specs.declared.files_fault.FilesFault.{FilesFault}
use Rattle.siman_outside.specs.declared.files_fault.FilesFault.TheVariants as files
use Rattle.siman_outside.specs.declared.input.InputFault.{InputFault}
use Rattle.siman_outside.specs.declared.input.InputFault.TheVariants as inputs
use Rattle.siman_print.specs.Records.{line_end}

-- the name of the reason why a move is refused
abbrev pub refusal_name : MoveRefusal → List ℕ
refusal_name moves.Records = codes "records"
refusal_name moves.NoSuchStation = codes "no-such-station"
refusal_name moves.NoSuchSend = codes "no-such-send"
refusal_name moves.NoSuchEntity = codes "no-such-entity"
refusal_name moves.NotARequest = codes "not-a-request"
refusal_name moves.IdsSpent = codes "ids-spent"
refusal_name moves.TooLong = codes "too-long"
refusal_name moves.Memory = codes "memory"

-- the name of a limit that joined pieces pass
abbrev pub limit_name : JoinLimit → List ℕ
limit_name limits.Stations = codes "stations"
limit_name limits.Records = codes "records"
limit_name limits.Size = codes "size"

-- the reason why a file could not be opened, by the kind of the error, and its text
abbrev pub reason_of : ErrorKind → OpenFault
reason_of NotFound = Missing
reason_of PermissionDenied = Denied
reason_of IsADirectory = Directory
reason_of _ = Other

abbrev pub reason_text : OpenFault → List ℕ
reason_text Missing = codes "no such file"
reason_text Denied = codes "permission denied"
reason_text Directory = codes "is a directory"
reason_text Other = codes "cannot be opened"

-- THE TABLE OF FAULTS: subject, name and place of each. A place is the offset of a field in bytes from 0, a line of a script or of hex texts from 1, a move of a world from 0, or a piece by its name; for a file that could not be opened, the reason takes its position.
abbrev pub reported_as : Fault → List ℕ × List ℕ × Option Place
reported_as NotBytePairs = (codes "hex: ", codes "not byte pairs", None)
reported_as (HexLine number) = (codes "hex: ", codes "not byte pairs", Some (Line number))
reported_as Input = (codes "file: ", codes "-", None)
reported_as (File name reason) = (codes "file: ", name.now, Some (Unopened reason))
reported_as Words = (codes "words: ", codes "not UTF-8", None)
reported_as (Recording (recordings.Format f)) = (codes "recording: ", recording_texts.name_of f, Some (Offset (recording_texts.place_of f)))
reported_as (Recording recordings.Read) = (codes "recording: ", codes "read", None)
reported_as (Recording recordings.Memory) = (codes "recording: ", codes "memory", None)
reported_as Already = (codes "recording: ", codes "already", None)
reported_as (Piece (recordings.Format f) name) = (codes "recording: ", recording_texts.name_of f, Some (PieceOffset (recording_texts.place_of f) name))
reported_as (Piece recordings.Read name) = (codes "recording: ", codes "read", Some (places.Piece name))
reported_as (Piece recordings.Memory name) = (codes "recording: ", codes "memory", Some (places.Piece name))
reported_as (OtherExercise name) = (codes "join: ", codes "exercise", Some (places.Piece name))
reported_as (StationTwice site application name) = (codes "join: ", codes "station", Some (PieceStation site application name))
reported_as (BackInTime site application name) = (codes "join: ", codes "time", Some (PieceStation site application name))
reported_as (OtherOpening site application entity name) = (codes "join: ", codes "opening", Some (PieceEntity site application entity name))
reported_as (Joined limit) = (codes "join: ", limit_name limit, None)
reported_as (Certificate (certificates.Format f)) = (codes "certificate: ", certificate_texts.name_of f, Some (Offset (certificate_texts.place_of f)))
reported_as (Certificate certificates.Read) = (codes "certificate: ", codes "read", None)
reported_as (Certificate certificates.Memory) = (codes "certificate: ", codes "memory", None)
reported_as (BadLine line why) = (codes "script: ", codes "bad-line", Some (Line line))
reported_as (UnknownStation line why) = (codes "script: ", codes "unknown-station", Some (Line line))
reported_as (ScriptRead failed) = (codes "script: ", codes "read", None)
reported_as WorldStations = (codes "world: ", codes "stations", None)
reported_as (faults.Move number refusal there) = (codes "world: ", refusal_name refusal, Some (Move number))
reported_as LineFailed = (codes "live: ", codes "line", None)
reported_as (StationWord word) = (codes "station: address ", word.now, None)
reported_as NotInSetup = (codes "station: ", codes "not-in-setup", None)
reported_as (ImportAddress word) = (codes "import: address ", word.now, None)
reported_as (ImportHost word) = (codes "import: host ", word.now, None)
reported_as NotInImport = (codes "import: ", codes "not-in-setup", None)
reported_as (faults.Import (imports.Capture f)) = (codes "capture: ", capture_texts.name_of f, Some (Offset (capture_texts.place_of f)))
reported_as (faults.Import (imports.LinkType at)) = (codes "capture: ", codes "link-type", Some (Offset at))
reported_as (faults.Import (imports.Cut at)) = (codes "capture: ", codes "cut", Some (Offset at))
reported_as (faults.Import imports.Records) = (codes "import: ", codes "records", None)
reported_as (faults.Import imports.Size) = (codes "import: ", codes "size", None)
reported_as (faults.Import imports.Read) = (codes "capture: ", codes "read", None)
reported_as (faults.Import imports.Memory) = (codes "capture: ", codes "memory", None)
reported_as (Filter word) = (codes "filter: ", word.now, None)
reported_as (Step word steps) = (codes "filter: ", word.now, None)
reported_as OverLimit = (codes "view: ", codes "over-limit", None)
reported_as ChartOverLimit = (codes "chart: ", codes "over-limit", None)
reported_as (SourceLine line why) = (codes "plan: ", codes "bad-line", Some (Line line))
reported_as PlanTooLong = (codes "plan: ", codes "too-long", None)
reported_as Output = (codes "output: ", codes "write", None)
reported_as (SameAs name) = (codes "output: same as ", name.now, None)
reported_as Exists = (codes "output: ", codes "exists", None)
reported_as Memory = ([], codes "memory", None)

-- the name of a piece at the end of a line
abbrev pub piece_words : (name : List ℕ) → List ℕ
piece_words name = codes " in " ++ name

-- the address of a station, and the name of its piece
abbrev pub station_words : (site application : ℕ) → (name : List ℕ) → List ℕ
station_words site application name = (codes " " ++ decimal site) ++ ((codes ":" ++ decimal application) ++ piece_words name)

-- an entity of a station, and the name of its piece
abbrev pub words_under_site : (application entity : ℕ) → (name : List ℕ) → List ℕ
words_under_site application entity name = (codes ":" ++ decimal application) ++ ((codes ":" ++ decimal entity) ++ piece_words name)

abbrev pub entity_words : (site application entity : ℕ) → (name : List ℕ) → List ℕ
entity_words site application entity name = (codes " " ++ decimal site) ++ words_under_site application entity name

abbrev pub place_words : Place → List ℕ
place_words (Offset at) = codes " at " ++ decimal at
place_words (Line number) = codes " at line " ++ decimal number
place_words (Move number) = codes " at move " ++ decimal number
place_words (places.Piece name) = piece_words name.now
place_words (PieceOffset at name) = (codes " at " ++ decimal at) ++ piece_words name.now
place_words (PieceStation site application name) = station_words site application name.now
place_words (PieceEntity site application entity name) = entity_words site application entity name.now
place_words (Unopened reason) = codes ": " ++ reason_text reason

abbrev pub place_text : Option Place → List ℕ
place_text None = []
place_text (Some place) = place_words place

-- the line of a fault without and with its line end: SUBJECT: NAME, then the place or the reason
abbrev pub fault_text : Fault → List ℕ
fault_text fault = ((reported_as fault).0 ++ (reported_as fault).1) ++ place_text (reported_as fault).2

abbrev pub fault_line : Fault → List ℕ
fault_line fault = fault_text fault ++ line_end

-- the exit status of a fault: 3 for lack of memory, else 2
abbrev pub fault_status : Fault → ℕ
fault_status Memory = 3
fault_status other = 2

-- The fault of an error is `Memory` for lack of memory, else `other`.
abbrev pub IsFaultOf : ErrorKind → (other fault : Fault) → Type 0
IsFaultOf kind other fault = ((kind ≡ OutOfMemory) × (fault ≡ Memory)) ⊎ ((kind ≢ OutOfMemory) × (fault ≡ other))

-- the fault of a command for the fault of a recording, and of a certificate
abbrev pub of_recording : RecordingFault → Fault
of_recording recordings.Memory = Memory
of_recording fault = Recording fault

abbrev pub of_certificate : CertificateFault → Fault
of_certificate certificates.Memory = Memory
of_certificate fault = Certificate fault

-- the fault of a command for a failed conversion
abbrev pub of_convert : ConvertFault → Fault
of_convert (converts.Recording fault) = of_recording fault
of_convert converts.Already = Already
of_convert converts.Write = Output
of_convert converts.Memory = Memory

-- the fault of a command for a failed import
abbrev pub of_import : ImportFault → Fault
of_import imports.Memory = Memory
of_import fault = faults.Import fault

-- the fault of a command for a failed mending
abbrev pub of_mend : MendFault → Fault
of_mend (mends.Recording fault) = of_recording fault
of_mend mends.Write = Output
of_mend mends.Memory = Memory

-- the fault of a command for a script that was not read whole, and for a judged certificate
abbrev pub of_unread_script : InputFault → Fault
of_unread_script (inputs.Unread failed) = ScriptRead failed
of_unread_script inputs.Memory = Memory

abbrev pub of_files : FilesFault → Fault
of_files (files.Recording fault) = Recording fault
of_files (files.Certificate fault) = Certificate fault
of_files files.Write = Output
of_files files.Memory = Memory

-- the exit status of an answer or a fault
abbrev pub status_of : Result ℕ Fault → ℕ
status_of (Ok status) = status
status_of (Err fault) = fault_status fault

-- whether all that is written to the writer of faults was written
abbrev pub Wrote : Type 0
Wrote = Result (Unit {0}) WriteFailed

-- After an answer nothing is written to the writer of faults. After a fault its line is written, or a prefix of it if that writer fails.
abbrev pub Tells : Result ℕ Fault → Wrote → Option (List ℕ) → Option (List ℕ) → Type 0
Tells (Ok status) wrote old new = (wrote ≡ Ok tt) × Keeps old new
Tells (Err fault) wrote old new = Writes wrote old new (fault_line fault)

-- HOW A COMMAND ENDS after an answer or a fault: its exit status, and the text on the writer of faults
pub record Ends (answered : Result ℕ Fault) (ended : Ended) (old new : Option (List ℕ)) : Type 0 where
  pub status_is : ended.status ≡ status_of answered
  pub tells : Tells answered ended.written old new

-- the fault, if there was a fault
abbrev pub fault_in : Result ℕ Fault → Option Fault
fault_in answered = result_err answered

-- the ending of a call that returns only the status
abbrev pub EndsWith : Result ℕ Fault → (status : ℕ) → (old new : Option (List ℕ)) → Type 0
EndsWith answered status old new = (wrote : Wrote) × Ends answered (record { status = status; written = wrote }) old new
