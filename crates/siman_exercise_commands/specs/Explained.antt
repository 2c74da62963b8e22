-- Why a script is refused, and the place of a move that cannot be made (profile).
use Rattle.std.specs.Prelude.{◌≡◌, ◌⊎◌, ⊤, ℕ, List, [], ◌++◌, codes, length, take, option_map, Option, Some, None, Result, Ok, Err}
use Rattle.siman_scripts.specs.declared.script_fault.ScriptFault.{ScriptFault}
use Rattle.siman_scripts.specs.declared.script_fault.ScriptFault.TheVariants as scripts
use Rattle.siman_scripts.specs.declared.why.LineReason.{LineReason}
use Rattle.siman_scripts.specs.MoveLine.{line_of_move}
use Rattle.siman_scripts.specs.Reason.{reason_at}
use Rattle.siman_scripts.specs.ReasonText.{reason_text}
use Rattle.siman_scripts.specs.Script.{ScriptData, script_at}
use Rattle.siman_stations.specs.declared.world_fault.WorldFault.{WorldFault}
use Rattle.siman_stations.specs.declared.world_fault.WorldFault.TheVariants as worlds
use Rattle.siman_stations.specs.World.{WorldData, sent_in, entries_of}
use Rattle.siman_plans.specs.declared.source_fault.SourceReason.{SourceReason}
use Rattle.siman_plans.specs.Source.{source_reason_at}
use Rattle.siman_outside.specs.declared.fault.Fault.{Fault}
use Rattle.siman_outside.specs.declared.fault.Fault.TheVariants.{BadLine, UnknownStation, WorldStations, Move, Memory}
use Rattle.siman_outside.specs.declared.move_refusal.MovePlace.{MovePlace}
use Rattle.siman_outside.specs.declared.short_texts.ShortText.{ShortText}
use Rattle.siman_outside.specs.ShortTexts.{short_bytes}
use Rattle.siman_exercise_commands.specs.Refusals.{move_refusal}

-- the result of reading a script
abbrev pub Scripted : Type 0
Scripted = Result ScriptData ScriptFault

-- the text, if it is a script
abbrev pub lines_if : Scripted → List ℕ → List ℕ
lines_if (Ok s) text = text
lines_if (Err fault) text = []

-- what is told behind a reason where a plan reads the text as a source
abbrev pub hint_by : Option SourceReason → List ℕ
hint_by None = codes "; siman plan reads it"
hint_by (Some reason) = []

-- the text of a reason, and what is told behind it
abbrev pub told_by : (hint : List ℕ) → Option LineReason → Option (List ℕ)
told_by hint reason = option_map (λ r. reason_text r ++ hint) reason

-- WHAT IS READ OF A TEXT: its script, or its first refused line; why that is refused, in words; and the text, if it is a
-- script
pub record TextRead : Type 0 where
  pub scripted : Scripted
  pub reason : Option (List ℕ)
  pub lines : List ℕ

abbrev pub text_read : List ℕ → TextRead
text_read text = record { scripted = script_at text; reason = told_by (hint_by (source_reason_at text)) (reason_at text); lines = lines_if (script_at text) text }

-- what a fault has of the reason: its words
abbrev pub IsWhy : Option (List ℕ) → Option ShortText → Type 0
IsWhy None why = why ≡ None
IsWhy (Some words) why = (short : ShortText) × (why ≡ Some short) × (short_bytes short ≡ words)

-- A SCRIPT IS REFUSED, for this reason; or memory ran out
abbrev pub RefusesWith : ScriptFault → Option (List ℕ) → Fault → Type 0
RefusesWith (scripts.BadLine line) reason told = (told ≡ Memory) ⊎ ((why : Option ShortText) × IsWhy reason why × (told ≡ BadLine line why))
RefusesWith (scripts.UnknownStation line) reason told = (told ≡ Memory) ⊎ ((why : Option ShortText) × IsWhy reason why × (told ≡ UnknownStation line why))
RefusesWith scripts.Memory reason told = told ≡ Memory

-- that of a text, with its first reason
abbrev pub Refuses : TextRead → ScriptFault → Fault → Type 0
Refuses t fault told = RefusesWith fault t.reason told

-- how many datagrams the first moves of a script send
abbrev pub sends_before : ScriptData → (number : ℕ) → ℕ
sends_before s number =
    let w : WorldData = record { exercise = s.exercise; stations = s.stations } in length (sent_in (entries_of w (take number s.moves)))

-- the place of a move in its script, given its number, from 0
pub record IsPlacedAt (t : TextRead) (number : ℕ) (place : MovePlace) : Type 0 where
  pub line : line_of_move t.lines number ≡ Some place.line
  pub script : ScriptData
  pub read : t.scripted ≡ Ok script
  pub sends : place.sends ≡ Some (sends_before script number)

-- A WORLD DOES NOT RUN, with the place of the move that cannot be made; or memory ran out
abbrev pub Stopped : TextRead → WorldFault → Fault → Type 0
Stopped t worlds.Stations told = told ≡ WorldStations
Stopped t (worlds.Move number fault) told =
    (told ≡ Memory) ⊎ ((place : MovePlace) × IsPlacedAt t number place × (told ≡ Move number (move_refusal fault) (Some place)))
Stopped t worlds.Memory told = told ≡ Memory

-- the reason or place that a fault has
abbrev pub GivesWhy : TextRead → Fault → Type 0
GivesWhy t (BadLine line why) = IsWhy t.reason why
GivesWhy t (UnknownStation line why) = IsWhy t.reason why
GivesWhy t (Move number refusal there) = (place : MovePlace) × (there ≡ Some place) × IsPlacedAt t number place
GivesWhy t other = ⊤

abbrev pub GivesReason : {A : Type 0} → TextRead → Result A Fault → Type 0
GivesReason t (Ok a) = ⊤
GivesReason t (Err fault) = GivesWhy t fault
