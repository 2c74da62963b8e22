-- What `live` does with the stations and moves of a script, and how it ends (profile).
pub mod Lived
pub mod Moves
use Rattle.std.specs.Prelude.{◌≡◌, ◌≢◌, ◌⊎◌, ⊤, ℕ, Bool, true, false, List, [], ◌∷◌, ◌++◌, length, codes, Option, Some, None, Result, Ok, Err}
use Rattle.std.specs.Io.KnownBytes.{Keeps}
use Rattle.byte_files.specs.Writing.{Writes}
use Rattle.exercise_model.specs.Setting.{SettingData}
use Rattle.siman_scripts.specs.declared.script_fault.ScriptFault.TheVariants as scripts
use Rattle.siman_scripts.specs.Script.{ScriptData}
use Rattle.siman_stations.specs.World.{are_world_stations}
use Rattle.siman_stations.specs.Holds.{AreNewNodes}
use Rattle.siman_outside.specs.declared.fault.Fault.{Fault}
use Rattle.siman_outside.specs.declared.fault.Fault.TheVariants as faults
use Rattle.siman_outside.specs.declared.fault.Fault.TheVariants.{BadLine, UnknownStation, ScriptRead, WorldStations, LineFailed, Output, Exists, Memory}
use Rattle.siman_exercise_commands.specs.declared.live.Begun.{Begun}
use Rattle.siman_exercise_commands.specs.declared.live.BegunText.{BegunText}
use Rattle.siman_outside.specs.declared.move_refusal.MoveRefusal.{MoveRefusal}
use Rattle.siman_scripts.specs.MoveLine.{line_of_move}
use Rattle.std.specs.declared.io.ErrorKind.{ErrorKind}
use Rattle.std.specs.declared.io.ErrorKind.TheVariants.{AlreadyExists, OutOfMemory}
use Rattle.siman_outside.specs.Outside.{Has, Stream, Outcome, Deed, Saved, LooksFor, Lines, Creates, Leaves}
use Rattle.siman_outside.specs.Ending.{Ends, fault_in, IsFaultOf}
use Rattle.siman_outside.specs.Making.{Answered}
use Rattle.siman_outside.specs.Opening.{WorksOn}
use Rattle.siman_print.specs.Records.{line_end}
use Rattle.siman_outside.specs.declared.fault.Ended.{Ended}
use Rattle.siman_exercise_commands.specs.Explained.{Scripted, TextRead, text_read, GivesWhy}
use Rattle.siman_exercise_commands.specs.Live.Lived.{setting_of, Lives}
use Rattle.siman_lines.specs.declared.station_at_line.StationAtLine.{StationAtLine}
use Rattle.siman_lines.specs.AtLines.{Telling, Misfits, posts_of}
use Rattle.siman_scripts.specs.declared.act.Move.{Move}

-- A SCRIPT HAS NO STATIONS TO BEGIN WITH: its first refused line, or stations that a world cannot have; or the
-- script could not be read; or memory ran out, which may happen at any time
abbrev pub BeginsNone : Scripted → Fault → Type 0
BeginsNone scripted (BadLine line why) = scripted ≡ Err (scripts.BadLine line)
BeginsNone scripted (UnknownStation line why) = scripted ≡ Err (scripts.UnknownStation line)
BeginsNone scripted (ScriptRead failed) = ⊤
BeginsNone scripted WorldStations = (s : ScriptData) × (scripted ≡ Ok s) × (are_world_stations s.stations ≡ false)
BeginsNone scripted Memory = ⊤
BeginsNone scripted other = ⊥

-- the stations of a script in their initial state, each with its manager and application, and the moves of the
-- script
pub record IsBegun (scripted : Scripted) (begun : Begun) : Type 0 where
  pub script : ScriptData
  pub read : scripted ≡ Ok script
  pub stations : are_world_stations script.stations ≡ true
  pub moves : begun.moves.items ≡ script.moves
  pub setting : begun.recording.setting ≡ setting_of script
  pub nodes : AreNewNodes script.exercise script.stations begun.nodes.items

abbrev pub Begins : Scripted → Result Begun Fault → Type 0
Begins scripted (Ok begun) = IsBegun scripted begun
Begins scripted (Err fault) = BeginsNone scripted fault

-- the stations and moves of what was read of a text, together with the text; or the reason why there are none
abbrev pub BeginsText : TextRead → Result BegunText Fault → Type 0
BeginsText t (Ok kept) = IsBegun t.scripted kept.begun × (kept.text.items ≡ t.lines)
BeginsText t (Err fault) = BeginsNone t.scripted fault × GivesWhy t fault

-- WHAT `live` BEGINS WITH, of a file with these bytes, if they are known
abbrev pub BeginsFile : (known : Option (List ℕ)) → Result BegunText Fault → Type 0
BeginsFile known begun = (text : List ℕ) × Has known text × BeginsText (text_read text) begun

-- the fault of a file that was not created: memory ran out, a file of that name exists, or else a failed write
abbrev pub IsCreationFault : ErrorKind → Fault → Type 0
IsCreationFault kind fault =
    ((kind ≡ OutOfMemory) × (fault ≡ Memory)) ⊎ ((kind ≡ AlreadyExists) × (fault ≡ Exists))
    ⊎ ((kind ≢ OutOfMemory) × (kind ≢ AlreadyExists) × (fault ≡ Output))

-- the answer, if the file was settled on the disk; else a failed write, unless there was a fault before
abbrev pub settled_as : Saved → Answered → Answered
settled_as (Ok x) lived = lived
settled_as (Err kind) (Ok status) = Err Output
settled_as (Err kind) (Err fault) = Err fault

-- A FILE IS CREATED, in which the stations record what they do, and is closed
abbrev pub CreatesLived : {L : Type 0} → Telling L → SettingData → List Move → List (StationAtLine L) → (name : List ℕ) → List Deed → Answered → Stream → Type 0
CreatesLived told w moves posts name (Creates made (Err kind) ∷ []) answered out =
    (made ≡ name) × Keeps out.old out.new × ((fault : Fault) × IsCreationFault kind fault × (answered ≡ Err fault))
CreatesLived told w moves posts name (Creates made (Ok fresh) ∷ Leaves left settled ∷ []) answered out =
    (made ≡ name)
    × ((lived : Answered) × (let file : Stream = record { old = fresh; new = left } in Lives told w moves posts file lived out) × (answered ≡ settled_as settled lived))
CreatesLived told w moves posts name deeds answered out = ⊥

-- no file is created, and nothing is printed
abbrev pub CreatesNone : Fault → List Deed → Answered → Stream → Type 0
CreatesNone fault deeds answered out = (deeds ≡ []) × (answered ≡ Err fault) × Keeps out.old out.new

-- STATIONS ARE ATTACHED TO THEIR LINKS, post i with node i, link i and station i; none is, if there are not as many
-- links as stations, or if memory runs out
abbrev pub AttachesStations : {L : Type 0} → Telling L → Begun → List L → (name : List ℕ) → List Deed → Answered → Stream → Type 0
AttachesStations told begun lines name deeds answered out =
    (Misfits begun.nodes.items lines × CreatesNone LineFailed deeds answered out)
    ⊎ CreatesNone Memory deeds answered out
    ⊎ ((length lines ≡ length begun.nodes.items)
    × CreatesLived told begun.recording.setting begun.moves.items (posts_of begun.nodes.items lines) name deeds answered out)

-- AS MANY LINKS AS STATIONS are requested; if there are none, the fault is `live: line`, or that memory ran out
abbrev pub LivesAtLines : {L : Type 0} → Telling L → Begun → (name : List ℕ) → List Deed → Answered → Stream → Type 0
LivesAtLines told begun name (Lines stations (Err kind) ∷ deeds) answered out =
    (stations ≡ length begun.nodes.items) × ((fault : Fault) × IsFaultOf kind LineFailed fault × CreatesNone fault deeds answered out)
LivesAtLines {L} told begun name (Lines stations (Ok count) ∷ deeds) answered out =
    (stations ≡ length begun.nodes.items) × ((lines : List L) × (length lines ≡ count) × AttachesStations told begun lines name deeds answered out)
LivesAtLines told begun name deeds answered out = ⊥

-- A FILE OF THAT NAME EXISTS: nothing is done, and no link is requested
abbrev pub LivesBegun : {L : Type 0} → Telling L → Begun → (name : List ℕ) → List Deed → Answered → Stream → Type 0
LivesBegun told begun name (LooksFor looked true ∷ deeds) answered out = (looked ≡ name) × CreatesNone Exists deeds answered out
LivesBegun told begun name (LooksFor looked false ∷ deeds) answered out = (looked ≡ name) × LivesAtLines told begun name deeds answered out
LivesBegun told begun name deeds answered out = ⊥

-- THE FAULT OF A MOVE that cannot be made has the line of the script with that move, unless memory ran out
abbrev pub IsPlaced : (text : List ℕ) → (lived answered : Answered) → Type 0
IsPlaced text lived answered =
    (answered ≡ lived)
    ⊎ ((number line : ℕ) × (refusal : MoveRefusal) × (lived ≡ Err (faults.Move number refusal None)) × (line_of_move text number ≡ Some line)
    × (answered ≡ Err (faults.Move number refusal (Some (record { line = line; sends = None })))))

abbrev pub LivesText : {L : Type 0} → Telling L → BegunText → (name : List ℕ) → List Deed → Answered → Stream → Type 0
LivesText told kept name deeds answered out =
    (lived : Answered) × LivesBegun told kept.begun name deeds lived out × IsPlaced kept.text.items lived answered

-- THE END OF `live`.

-- a file was created
abbrev pub is_created : List Deed → Bool
is_created [] = false
is_created (Creates name (Ok fresh) ∷ deeds) = true
is_created (deed ∷ deeds) = is_created deeds

-- the incomplete recording that a fault leaves: the file that was created before
abbrev pub incomplete_recording : (created : Bool) → (name : List ℕ) → Answered → Option (List ℕ)
incomplete_recording true name (Err fault) = Some name
incomplete_recording true name (Ok status) = None
incomplete_recording false name answered = None

abbrev pub EndsLive : {L : Type 0} → Telling L → (script recording : List ℕ) → List Deed → Outcome → Type 0
EndsLive told script recording deeds o =
    (answered : Answered) × WorksOn BeginsFile (LivesText told) script recording deeds answered o.out
    × Ends answered o.ended o.errors.old o.errors.new × (o.fault ≡ fault_in answered) × (o.begun ≡ incomplete_recording (is_created deeds) recording answered)
