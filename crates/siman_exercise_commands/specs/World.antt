-- What `world` does with a script, and how it ends.
use Rattle.std.specs.Prelude.{◌≡◌, ◌⊎◌, ⊤, ℕ, Bool, true, false, List, [], ◌∷◌, length, slice_get, codes, Option, Some, None, Result, Ok, Err}
use Rattle.std.specs.Option.{option_map_or}
use Rattle.std.specs.Io.KnownBytes.{Appends, Keeps}
use Rattle.byte_files.specs.Writing.{WritesPart}
use Rattle.exercise_model.specs.Entry.{Entry, Sent, Received, Told}
use Rattle.exercise_model.specs.History.{past}
use Rattle.exercise_model.specs.Recording.{PlainRecording}
use Rattle.exercise_model.specs.Run.{IsRun}
use Rattle.exercise_recording.specs.Text.{entry_text, recording_text}
use Rattle.siman_scripts.specs.declared.script_fault.ScriptFault.TheVariants as scripts
use Rattle.siman_stations.specs.declared.world_fault.MoveFault.{MoveFault}
use Rattle.siman_stations.specs.declared.world_fault.WorldFault.{WorldFault}
use Rattle.siman_stations.specs.declared.world_fault.WorldFault.TheVariants as worlds
use Rattle.siman_scripts.specs.Script.{ScriptData}
use Rattle.siman_stations.specs.World.{WorldData, sent_in, world_recording, world_refusal}
use Rattle.siman_outside.specs.declared.fault.Fault.{Fault}
use Rattle.siman_outside.specs.declared.fault.Fault.TheVariants.{BadLine, UnknownStation, ScriptRead, WorldStations, Move, Output, Memory}
use Rattle.siman_outside.specs.Ending.{EndsWith}
use Rattle.siman_outside.specs.declared.product.Product.{Product}
use Rattle.siman_outside.specs.declared.product.Product.TheVariants.{File, Nothing}
use Rattle.siman_outside.specs.Outside.{Given, Stream}
use Rattle.siman_outside.specs.Making.{WritesShort}
use Rattle.siman_exercise_commands.specs.Refusals.{move_refusal}
use Rattle.siman_exercise_commands.specs.Explained.{Scripted, TextRead, text_read, GivesReason}
use Rattle.siman_print.specs.Line.{Number, Keyed, named_line}
use Rattle.siman_print.specs.Spelled.{line_text}

-- the world of a script, the recording that its moves make, and why they cannot be made
abbrev pub world_of : ScriptData → WorldData
world_of s = record { exercise = s.exercise; stations = s.stations }

abbrev pub recording_of : ScriptData → PlainRecording
recording_of s = world_recording (world_of s) s.moves

abbrev pub refusal_of : ScriptData → Option WorldFault
refusal_of s = world_refusal (world_of s) s.moves

-- A SCRIPT YIELDS A RECORDING: it is a script, its world runs, and the recording is that of the world; its entries,
-- in their order, are a run
pub record Yields (scripted : Scripted) (r : PlainRecording) : Type 0 where
  pub script : ScriptData
  pub read : scripted ≡ Ok script
  pub runs : refusal_of script ≡ None
  pub recording : r ≡ recording_of script
  pub run : IsRun r.setting (past r.entries)

-- the world of a script does not run, for this fault
abbrev pub Stops : Scripted → WorldFault → Type 0
Stops scripted fault = (s : ScriptData) × (scripted ≡ Ok s) × (refusal_of s ≡ Some fault)

-- A SCRIPT YIELDS NO RECORDING: its first refused line, or else why its world does not run; or the script could not
-- be read; or memory ran out, which may happen at any time
abbrev pub YieldsNone : Scripted → Fault → Type 0
YieldsNone scripted (BadLine line why) = scripted ≡ Err (scripts.BadLine line)
YieldsNone scripted (UnknownStation line why) = scripted ≡ Err (scripts.UnknownStation line)
YieldsNone scripted (ScriptRead failed) = ⊤
YieldsNone scripted WorldStations = Stops scripted worlds.Stations
YieldsNone scripted (Move number refusal there) = (fault : MoveFault) × (refusal ≡ move_refusal fault) × Stops scripted (worlds.Move number fault)
YieldsNone scripted Memory = ⊤
YieldsNone scripted other = ⊥

abbrev pub Runs : Scripted → Result PlainRecording Fault → Type 0
Runs scripted (Ok r) = Yields scripted r
Runs scripted (Err fault) = YieldsNone scripted fault

-- the recording that was made of what was read of a text; or the reason why there is none
abbrev pub RunsText : TextRead → Result PlainRecording Fault → Type 0
RunsText t made = Runs t.scripted made × GivesReason t made

-- the text of the entry of an index
abbrev pub entry_written : PlainRecording → ℕ → List ℕ
entry_written r i = option_map_or entry_text (slice_get r.entries i) []

-- a datagram was sent
abbrev pub is_sent : Entry → Bool
is_sent (Sent s stamp b) = true
is_sent (Received s stamp b) = false
is_sent (Told s e y) = false

-- world records=N sent=M
abbrev pub world_text : PlainRecording → List ℕ
world_text r =
    line_text (named_line (codes "world") (Keyed (codes "records") (Number (length r.entries)) ∷ Keyed (codes "sent") (Number (length (sent_in r.entries))) ∷ []))

-- THE OUTPUT OF A RECORDING: its whole text in the file, and then its row; if memory runs out, a prefix of the text
-- and no row
abbrev pub PutsWorld : PlainRecording → Result ℕ Fault → (file out : Stream) → Type 0
PutsWorld r (Ok status) file out =
    (status ≡ 0) × Appends file.old file.new (recording_text r) × Appends out.old out.new (world_text r)
PutsWorld r (Err Output) file out = WritesShort (recording_text r) (world_text r) file out
PutsWorld r (Err Memory) file out = WritesPart file.old file.new (recording_text r) × Keeps out.old out.new
PutsWorld r (Err other) file out = ⊥

-- the effect of `world`: the script yields no recording, and nothing is written; or it yields one, which is written
abbrev pub GivesWorld : Scripted → (answered : Result ℕ Fault) → (file out : Stream) → Type 0
GivesWorld scripted answered file out =
    ((fault : Fault) × YieldsNone scripted fault × (answered ≡ Err fault) × Keeps file.old file.new × Keeps out.old out.new)
    ⊎ ((r : PlainRecording) × Yields scripted r × PutsWorld r answered file out)

-- THE END OF `world`: what it made of the script is in the file and on the output, and it ends with the status of
-- that
abbrev pub EndsWorld : Scripted → (status : ℕ) → (file out errors : Stream) → Type 0
EndsWorld scripted status file out errors =
    (answered : Result ℕ Fault) × GivesWorld scripted answered file out × EndsWith answered status errors.old errors.new

-- THE RECORDING that `world` makes of a file with these bytes, if they are known
abbrev pub RunsFile : (known : Option (List ℕ)) → Result (Product PlainRecording) Fault → Type 0
RunsFile known (Ok (File r)) = Given known (λ text. RunsText (text_read text) (Ok r))
RunsFile known (Ok (Nothing text)) = ⊥
RunsFile known (Err fault) = Given known (λ text. RunsText (text_read text) (Err fault))
