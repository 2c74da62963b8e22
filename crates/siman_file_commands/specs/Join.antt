-- What `join` makes of pieces of a recording, and its ending.
use Rattle.std.specs.Prelude.{◌≡◌, ◌⊎◌, ℕ, Bool, List, [], ◌∷◌, ◌++◌, map, codes, false, Option, Some, None, Result, Ok, Err, Vec, string_bytes, if◌then◌else◌}
use Rattle.std.specs.List.{flat_map}
use Rattle.std.specs.declared.alloc.Global.{Global}
use Rattle.std.specs.Io.KnownBytes.{Keeps}
use Rattle.exercise_model.specs.declared.form.Form.{Form}
use Rattle.exercise_model.specs.Setting.{is_open}
use Rattle.exercise_recording.specs.declared.join_fault.JoinFault.{JoinFault}
use Rattle.exercise_recording.specs.declared.join_fault.JoinFault.TheVariants as joins
use Rattle.exercise_recording.specs.declared.joined.FormWord.{FormWord}
use Rattle.exercise_recording.specs.declared.joined.FormWord.TheVariants.{Unsaid, Open, Closed}
use Rattle.exercise_recording.specs.declared.joined.Joined.{Joined}
use Rattle.exercise_recording.specs.FaultText.{join_fault_text}
use Rattle.exercise_recording.specs.Joining.{JoiningData, JointData, Recorded, Takes, Ends}
use Rattle.exercise_recording.specs.Reading.{recording_at}
use Rattle.siman_outside.specs.declared.commands.JoinChoices.{JoinChoices}
use Rattle.siman_outside.specs.declared.commands.JoinForm.{JoinForm}
use Rattle.siman_outside.specs.declared.commands.JoinForm.TheVariants as asked
use Rattle.siman_print.specs.Line.{Line, Number, Word, Keyed, named_line}
use Rattle.siman_print.specs.Spelled.{line_text}
use Rattle.siman_outside.specs.declared.fault.Fault.{Fault}
use Rattle.siman_outside.specs.declared.fault.Fault.TheVariants.{Output, Memory}
use Rattle.siman_file_commands.specs.declared.join.JoinedFile.{JoinedFile}
use Rattle.siman_file_commands.specs.declared.join.OpenPiece.{OpenPiece}
use Rattle.siman_outside.specs.declared.limits.TheConstants.{LARGEST_RECORDING}
use Rattle.siman_outside.specs.Ending.{fault_text}
use Rattle.siman_outside.specs.Making.{Answered, MakesFile, PutsBoth}
use Rattle.siman_outside.specs.Opening.{OpensInput, OpensSparing}
use Rattle.siman_file_commands.specs.Openings.{GoesOn, IsOther}
use Rattle.siman_outside.specs.Outside.{Has, Stream, Deed, Opens, Compares, Reads}

-- the form that the words ask for, if they do
abbrev pub word_of : Option JoinForm → FormWord
word_of None = Unsaid
word_of (Some asked.Open) = Open
word_of (Some asked.Closed) = Closed

-- the joining without pieces, as the words say
abbrev pub start_of : JoinChoices → JoiningData
start_of choices = record { word = word_of choices.form; parts = choices.parts; pieces = [] }

-- ---- lines and faults

-- the name of a form of the second format
abbrev pub form_word : Form → List ℕ
form_word form = if is_open form then codes "open" else codes "closed"

-- the line `joined pieces=N stations=N records=N form=FORM`
abbrev pub joined_line : Joined → Line
joined_line told =
    named_line (codes "joined") (Keyed (codes "pieces") (Number told.pieces) ∷ Keyed (codes "stations") (Number told.stations)
    ∷ Keyed (codes "records") (Number told.entries) ∷ Keyed (codes "form") (Word (form_word told.form)) ∷ [])

abbrev pub joined_text : Joined → List ℕ
joined_text told = line_text (joined_line told)

-- THE FAULT for pieces that are not joined; that of a single piece has its name as it was given
abbrev pub IsJoinFault : JoinFault → (name : List ℕ) → Fault → Type 0
IsJoinFault (joins.Recording why) name fault = fault_text fault ≡ codes "recording: " ++ join_fault_text (joins.Recording why) ++ codes " in " ++ name
IsJoinFault joins.Exercise name fault = fault_text fault ≡ codes "join: exercise in " ++ name
IsJoinFault (joins.Station a) name fault = fault_text fault ≡ codes "join: " ++ join_fault_text (joins.Station a) ++ codes " in " ++ name
IsJoinFault (joins.Time a) name fault = fault_text fault ≡ codes "join: " ++ join_fault_text (joins.Time a) ++ codes " in " ++ name
IsJoinFault joins.Stations name fault = fault_text fault ≡ codes "join: stations"
IsJoinFault joins.Records name fault = fault_text fault ≡ codes "join: records"
IsJoinFault joins.Size name fault = fault_text fault ≡ codes "join: size"
IsJoinFault joins.Write name fault = fault ≡ Output
IsJoinFault joins.Memory name fault = fault ≡ Memory

-- ---- opening

-- an opened piece: its name, and its bytes if they are known
pub record Seen : Type 0 where
  pub name : List ℕ
  pub bytes : Option (List ℕ)

-- an opened piece, as contracts see it
abbrev pub seen_by : {F : Type 0} → (F → Option (List ℕ)) → OpenPiece F → Seen
seen_by bytes piece = record { name = piece.name.now; bytes = bytes piece.file }

abbrev pub all_seen : {F : Type 0} → (F → Option (List ℕ)) → Vec (OpenPiece F) Global → List Seen
all_seen bytes pieces = map (seen_by bytes) pieces.items

-- the calls for one piece, which is not the file to be made
abbrev pub opening_deeds : (made : List ℕ) → Seen → List Deed
opening_deeds made piece = Opens piece.name (Ok piece.bytes) ∷ Compares made false ∷ []

-- No further piece is opened: memory ran out, or a piece could not be opened or is the file to be made.
abbrev pub StopsAt : (left : List (List ℕ)) → (made : List ℕ) → List Deed → Fault → Type 0
StopsAt left made deeds fault =
    ((deeds ≡ []) × (fault ≡ Memory))
    ⊎ ((name : List ℕ) × (more : List (List ℕ)) × (left ≡ name ∷ more) × OpensInput name made deeds (Err fault))

-- PIECES ARE OPENED in the order of the words, none of which is the file to be made; or some are, up to a fault
abbrev pub OpensPieces : (names : List (List ℕ)) → (made : List ℕ) → List Deed → Result (List Seen) Fault → Type 0
OpensPieces names made deeds (Ok pieces) = (names ≡ map (λ (piece : Seen). piece.name) pieces) × (deeds ≡ flat_map (opening_deeds made) pieces)
OpensPieces names made deeds (Err fault) =
    (pieces : List Seen) × (left : List (List ℕ)) × (last : List Deed) × (names ≡ map (λ (piece : Seen). piece.name) pieces ++ left)
    × (deeds ≡ flat_map (opening_deeds made) pieces ++ last) × StopsAt left made last fault

-- PIECES ARE OPENED, and the name of the file to be made has no file to replace, or `force` is set
abbrev pub OpensPiecesSpared : (names : List (List ℕ)) → (force : Bool) → (made : List ℕ) → List Deed → Result (List Seen) Fault → Type 0
OpensPiecesSpared names force made = OpensSparing (OpensPieces names made) force made

-- ---- reading

-- A piece that was read is appended to the others, or its fault is returned.
abbrev pub TakesRecording : Recorded → (name : List ℕ) → (old : JoiningData) → Result (Unit {0}) Fault → (new : JoiningData) → Type 0
TakesRecording recorded name old (Ok u) new = Takes recorded (Ok u) old new
TakesRecording recorded name old (Err fault) new = (why : JoinFault) × Takes recorded (Err why) old new × IsJoinFault why name fault

-- HOW A PIECE IS READ and appended
abbrev pub TakesPiece : Seen → (old : JoiningData) → List Deed → Result (Unit {0}) Fault → (new : JoiningData) → Type 0
TakesPiece piece old deeds result new =
    (bytes : List ℕ) × Has piece.bytes bytes × (deeds ≡ Reads piece.bytes ∷ []) × TakesRecording (recording_at LARGEST_RECORDING bytes) piece.name old result new

-- More pieces behind those appended: each is read and appended, up to the first fault, after which no other is read.
abbrev pub ReadsBehind : JoiningData → List Seen → List Deed → Result JoiningData Fault → Type 0
ReadsBehind j [] deeds result = (deeds ≡ []) × (result ≡ Ok j)
ReadsBehind j (piece ∷ pieces) deeds result =
    ((first rest : List Deed) × (next : JoiningData) × TakesPiece piece j first (Ok tt) next × (deeds ≡ first ++ rest) × ReadsBehind next pieces rest result)
    ⊎ ((fault : Fault) × (next : JoiningData) × TakesPiece piece j deeds (Err fault) next × (result ≡ Err fault))

-- PIECES ARE READ in the order of the words
abbrev pub ReadsPieces : JoinChoices → List Seen → List Deed → Result JoiningData Fault → Type 0
ReadsPieces choices pieces deeds result = ReadsBehind (start_of choices) pieces deeds result

-- ---- the made file

-- THE JOINED FILE OF PIECES with these names, with its line; or the first limit that they break together, or the first
-- opening list of a part that does not agree with the log before it
abbrev pub Gives : (names : List (List ℕ)) → JoiningData → Result JoinedFile Fault → Type 0
Gives names j (Ok file) = Ends LARGEST_RECORDING j (Ok file.joint) × GoesOn file.joint × (string_bytes file.line ≡ joined_text file.joint.told)
Gives names j (Err fault) =
    ((why : JoinFault) × Ends LARGEST_RECORDING j (Err why) × IsJoinFault why [] fault)
    ⊎ ((d : JointData) × Ends LARGEST_RECORDING j (Ok d) × IsOther names d fault)

abbrev pub ReadsAndGives : (names : List (List ℕ)) → JoinChoices → List Seen → List Deed → Result JoinedFile Fault → Type 0
ReadsAndGives names choices pieces deeds result =
    ((fault : Fault) × ReadsPieces choices pieces deeds (Err fault) × (result ≡ Err fault))
    ⊎ ((j : JoiningData) × ReadsPieces choices pieces deeds (Ok j) × Gives names j result)

-- WHAT `join` DOES: all pieces are opened before any is read, and the file is made after all are read: its text, whole, and then the line, with status 0
abbrev pub JoinsPieces : (names : List (List ℕ)) → (force : Bool) → (made : List ℕ) → JoinChoices → List Deed → Answered → Stream → Type 0
JoinsPieces names force made choices deeds answered out =
    ((fault : Fault) × OpensPiecesSpared names force made deeds (Err fault) × (answered ≡ Err fault) × Keeps out.old out.new)
    ⊎ ((pieces : List Seen) × (opened read : List Deed) × (fault : Fault) × OpensPiecesSpared names force made opened (Ok pieces) × ReadsAndGives names choices pieces read (Err fault)
    × (deeds ≡ opened ++ read) × (answered ≡ Err fault) × Keeps out.old out.new)
    ⊎ ((pieces : List Seen) × (opened read rest : List Deed) × (file : JoinedFile) × OpensPiecesSpared names force made opened (Ok pieces) × ReadsAndGives names choices pieces read (Ok file)
    × (deeds ≡ opened ++ read ++ rest) × MakesFile (PutsBoth file.joint.text (string_bytes file.line)) force made rest answered out)
