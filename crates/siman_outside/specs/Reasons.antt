-- The second line of a fault, which explains it to a person (profile).
use Rattle.std.specs.Prelude.{◌≡◌, ◌⊎◌, ⊤, ℕ, Bool, zero, suc, ◌-◌, ◌==◌, List, [], ◌++◌, codes, decimal, Option, Some, None, Result, Ok, Err, if◌then◌else◌}
use Rattle.std.specs.Io.KnownBytes.{Keeps}
use Rattle.byte_files.specs.Writing.{Writes}
use Rattle.byte_files.specs.declared.output.WriteFailed.{WriteFailed}
use Rattle.byte_files.specs.Pieces.{five, pieces_text}
use Rattle.exercise_recording.specs.declared.format_fault.FormatFault.{FormatFault}
use Rattle.exercise_recording.specs.FaultText.{name_of, place_of}
use Rattle.siman_print.specs.Records.{line_end}
use Rattle.siman_outside.specs.declared.fault.Fault.{Fault}
use Rattle.siman_outside.specs.declared.fault.Fault.TheVariants.{BadLine, UnknownStation, SourceLine, Move, Step}
use Rattle.siman_outside.specs.ShortTexts.{short_bytes}
use Rattle.siman_outside.specs.declared.move_refusal.MovePlace.{MovePlace}
use Rattle.siman_outside.specs.declared.move_refusal.MoveRefusal.{MoveRefusal}
use Rattle.siman_outside.specs.declared.move_refusal.MoveRefusal.TheVariants as moves
use Rattle.siman_outside.specs.declared.reason.Reason.{Reason}
use Rattle.siman_outside.specs.declared.reason.Reason.TheVariants as reasons
use Rattle.siman_outside.specs.declared.notes.Warning.{Warning}
use Rattle.siman_outside.specs.declared.notes.Warning.TheVariants as warnings

-- Of a move that is refused.

-- the number of a script's line, and words behind it
abbrev pub line_text : (line : ℕ) → (told : List ℕ) → List ℕ
line_text line told = five (codes "line ") (decimal line) told [] []

-- the datagrams that a delivery may name, after this number of sends
abbrev pub known_text : (line sends : ℕ) → List ℕ
known_text line sends =
    if sends == 0 then line_text line (codes ": no datagram was sent before it")
    else five (codes "line ") (decimal line) (codes ": only the datagrams 0 to ") (decimal (sends - 1)) (codes " were sent before it")

abbrev pub sent_text : (line : ℕ) → Option ℕ → List ℕ
sent_text line None = line_text line (codes ": that datagram was not sent before it")
sent_text line (Some sends) = known_text line sends

-- why a move is refused, in words
abbrev pub refusal_words : MoveRefusal → List ℕ
refusal_words moves.Records = codes ": a recording has at most 1048576 entries"
refusal_words moves.NoSuchStation = codes ": the script has no such station"
refusal_words moves.NoSuchSend = codes ": that datagram was not sent before it"
refusal_words moves.NoSuchEntity = codes ": the number of an entity is from 1 to 65533"
refusal_words moves.NotARequest = codes ": only requests are ordered"
refusal_words moves.IdsSpent = codes ": no request identifier is left: begin with a smaller first="
refusal_words moves.TooLong = codes ": its PDU would have more than 8192 bytes: ask for fewer data"
refusal_words moves.Memory = codes ": memory ran out"

-- the line of a move in its script, and why the move is refused, or which would do
abbrev pub move_text : MovePlace → MoveRefusal → List ℕ
move_text place moves.NoSuchSend = sent_text place.line place.sends
move_text place refusal = line_text place.line (refusal_words refusal)

-- Of a word that names a step past the last one.

abbrev pub step_text : ℕ → List ℕ
step_text zero = five (codes "there are no steps") [] [] [] []
step_text (suc last) = five (codes "the number of steps is ") (decimal (suc last)) (codes ": the last is ") (decimal last) []

-- Of a reason.

abbrev pub reason_words : Reason → List ℕ
reason_words (reasons.Short text) = short_bytes text
reason_words (reasons.Text pieces) = pieces_text pieces
reason_words (reasons.Both first second) = pieces_text first ++ pieces_text second

-- The text says that a file is no script and looks like one of another kind.
abbrev pub IsForeign : (text : List ℕ) → Type 0
IsForeign text = (name kind : List ℕ) × (text ≡ five name (codes " is no script: it looks like ") kind [] [])

-- THE REASON OF A FAULT, if the input determines it: why a line of a script is refused or what kind of file it looks like, the place of a move and which would do, or the last step. The text for any other fault is in no contract.
abbrev pub IsReason : Fault → (text : List ℕ) → Type 0
IsReason (BadLine line (Some why)) text = (text ≡ short_bytes why) ⊎ IsForeign text
IsReason (UnknownStation line (Some why)) text = (text ≡ short_bytes why) ⊎ IsForeign text
IsReason (SourceLine line (Some why)) text = (text ≡ short_bytes why) ⊎ IsForeign text
IsReason (Move number refusal (Some place)) text = text ≡ move_text place refusal
IsReason (Step word steps) text = text ≡ step_text steps
IsReason other text = ⊤

-- THE SECOND LINE begins with two blanks
abbrev pub second_line : (text : List ℕ) → List ℕ
second_line text = codes "  " ++ (text ++ line_end)

-- the line `mend REC NEW`, where REC is the name of the begun recording and NEW is the word itself
abbrev pub mend_line : (begun : Option (List ℕ)) → List ℕ
mend_line None = []
mend_line (Some name) = (codes "mend " ++ name) ++ (codes " NEW" ++ line_end)

-- whether all of it is written
abbrev pub Wrote : Type 0
Wrote = Result (Unit {0}) WriteFailed

-- Of warnings.

-- No datagram of a recording means anything in its exercise.
abbrev pub meant_text : (datagrams exercise : ℕ) → List ℕ
meant_text datagrams exercise =
    five (codes "none of the ") (decimal datagrams) (codes " datagrams is a management PDU of exercise ") (decimal exercise) (codes ": see why= of siman log")

-- An order is for a station that its script does not have.
abbrev pub nobody_text : (line site application : ℕ) → List ℕ
nobody_text line site application =
    five (codes "line ") (decimal line) (codes ": the script has no station ") (decimal site ++ (codes ":" ++ decimal application)) (codes ", so nobody gets this order")

-- A log may not be whole, for each of these reasons that holds.
abbrev pub words_if : (holds : Bool) → (words : List ℕ) → List ℕ
words_if holds words = if holds then words else []

abbrev pub lacking_text : (dropped fragments bundled : Bool) → List ℕ
lacking_text dropped fragments bundled =
    five (codes "the log may not be whole:") (words_if dropped (codes " the capturing system lost packets (dropped);"))
    (words_if fragments (codes " parts of datagrams are missing (fragments);")) (words_if bundled (codes " datagrams of several PDUs are not read (bundled);"))
    (codes " the counts say how many")

-- A recording is torn: its fault, and how many entries are read of it.
abbrev pub torn_text : FormatFault → List ℕ
torn_text fault = five (codes "the recording is torn, ") (name_of fault) (codes " at ") (decimal (place_of fault)) (codes ": ")

abbrev pub kept_text : (entries : ℕ) → List ℕ
kept_text entries = five (codes "its entries that stand whole before that are read, ") (decimal entries) (codes " in all") [] []

abbrev pub warning_text : Warning → List ℕ
warning_text (warnings.NothingMeant datagrams exercise) = meant_text datagrams exercise
warning_text (warnings.NoSuchStation line site application) = nobody_text line site application
warning_text (warnings.Torn fault entries) = torn_text fault ++ kept_text entries
warning_text (warnings.NotWhole dropped fragments bundled) = lacking_text dropped fragments bundled
warning_text (warnings.Unopened text) = short_bytes text

-- the line `warning: TEXT`
abbrev pub warning_line : Warning → List ℕ
warning_line warning = codes "warning: " ++ (warning_text warning ++ line_end)

abbrev pub Warns : Option Warning → (old new : Option (List ℕ)) → Type 0
Warns None old new = Keeps old new
Warns (Some warning) old new = (wrote : Wrote) × Writes wrote old new (warning_line warning)

-- BEHIND THE FIRST LINE OF A FAULT its second line is written, and the line that mends the recording begun before it, or a prefix of both if the writer fails; nothing, if the first line was not written whole. Without a fault, the warnings are written, as far as there are some.
abbrev pub Explains : (first : Wrote) → Option Fault → (begun : Option (List ℕ)) → (warning further : Option Warning) → (old new : Option (List ℕ)) → Type 0
Explains first None begun warning further old new = (mid : Option (List ℕ)) × Warns warning old mid × Warns further mid new
Explains (Err failed) (Some fault) begun warning further old new = Keeps old new
Explains (Ok x) (Some fault) begun warning further old new =
    (text : List ℕ) × (wrote : Wrote) × IsReason fault text × Writes wrote old new (second_line text ++ mend_line begun)
