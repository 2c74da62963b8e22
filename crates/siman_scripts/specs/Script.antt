-- Scripts: the script that a text spells, and the first refused line (profile).
use Rattle.std.specs.Prelude.{◌≡◌, ℕ, ◌+◌, Bool, ◌&&◌, not, nat_lt, List, [], ◌∷◌, length, Option, Some, None, Result, Ok, Err, if◌then◌else◌}
use Rattle.siman_scripts.specs.declared.script.TheConstants.{LARGEST_SCRIPT}
use Rattle.siman_scripts.specs.declared.act.Move.{Move}
use Rattle.siman_scripts.specs.declared.line_fault.ScriptLineFault.{ScriptLineFault}
use Rattle.siman_scripts.specs.declared.line_fault.ScriptLineFault.TheVariants as lines
use Rattle.siman_scripts.specs.declared.script_fault.ScriptFault.{ScriptFault}
use Rattle.siman_scripts.specs.declared.script_fault.ScriptFault.TheVariants.{BadLine, UnknownStation, Memory}
use Rattle.siman_scripts.specs.declared.statement.Statement.{Statement}
use Rattle.byte_files.specs.Text.{lines_of}
use Rattle.siman_scripts.specs.Stations.{WorldStationData}
use Rattle.siman_scripts.specs.Statement.{statement_of}
use Rattle.siman_scripts.specs.Draft.{DraftData, blank, after, wants_exercise}

-- a script, without its memory
pub record ScriptData : Type 0 where
  pub exercise : ℕ
  pub stations : List WorldStationData
  pub moves : List Move

-- the fault of the line of this number
abbrev pub fault_at : ℕ → ScriptLineFault → ScriptFault
fault_at n lines.Bad = BadLine n
fault_at n lines.Unknown = UnknownStation n
fault_at n lines.Memory = Memory

abbrev pub after_if : DraftData → Option Statement → Result DraftData ScriptLineFault
after_if d None = Err lines.Bad
after_if d (Some s) = after d s

-- the draft after one more line, which has a form and is in its part, or the line's fault
abbrev pub line_after : DraftData → List ℕ → Result DraftData ScriptLineFault
line_after d line = after_if d (statement_of line)

-- the rest after line n, unless that is refused
abbrev pub unless_refused : ℕ → Result DraftData ScriptLineFault → (DraftData → Result DraftData ScriptFault) → Result DraftData ScriptFault
unless_refused n (Ok d) next = next d
unless_refused n (Err fault) next = Err (fault_at n fault)

-- the draft after more lines, behind n lines before them, or the first of them that is refused, by its number
abbrev pub lines_after : DraftData → ℕ → List (List ℕ) → Result DraftData ScriptFault
lines_after d n [] = Ok d
lines_after d n (l ∷ ls) = unless_refused (n + 1) (line_after d l) (λ e. lines_after e (n + 1) ls)

-- there was an exercise line, and a station line
abbrev pub is_whole : DraftData → Bool
is_whole d = not (wants_exercise d.part) && nat_lt 0 (length d.stations)

abbrev pub script_of : DraftData → ScriptData
script_of d = record { exercise = d.exercise; stations = d.stations; moves = d.moves }

-- the script after the last of n lines
abbrev pub whole_after : ℕ → Result DraftData ScriptFault → Result ScriptData ScriptFault
whole_after n (Err fault) = Err fault
whole_after n (Ok d) = if is_whole d then Ok (script_of d) else Err (BadLine (n + 1))

-- THE SCRIPT THAT A TEXT SPELLS, OR ITS FIRST REFUSAL by the order of lines. A text of more than 1,048,576 bytes is
-- a bad line 0, before all else.
abbrev pub script_at : List ℕ → Result ScriptData ScriptFault
script_at text =
    if nat_lt LARGEST_SCRIPT (length text) then Err (BadLine 0) else whole_after (length (lines_of text)) (lines_after blank 0 (lines_of text))

-- the fault of a call is this result of reading; lack of memory may happen with any
abbrev pub Refuses : {Y : Type 0} → ScriptFault → Result Y ScriptFault → Type 0
Refuses (BadLine n) read = read ≡ Err (BadLine n)
Refuses (UnknownStation n) read = read ≡ Err (UnknownStation n)
Refuses Memory read = Unit {0}

abbrev pub Gives : {Y : Type 0} → Result Y ScriptFault → Result Y ScriptFault → Type 0
Gives (Ok y) read = read ≡ Ok y
Gives (Err fault) read = Refuses fault read
