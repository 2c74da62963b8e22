-- What is true of all texts: one is a source or has a reason, and a script is a source that means the same (profile).
use Rattle.std.specs.Prelude.{◌≡◌, ℕ, List, [], ◌∷◌, ◌++◌, Some, Ok}
use Rattle.std.specs.Option.{option_map}
use Rattle.std.specs.Result.{result_err}
use Rattle.siman_scripts.specs.declared.act.Act.TheVariants.{Deliver}
use Rattle.siman_scripts.specs.declared.act.Move.{Move}
use Rattle.siman_scripts.specs.Script.{ScriptData, script_at}
use Rattle.siman_plans.specs.declared.source.Which.TheVariants.{Number}
use Rattle.siman_plans.specs.declared.source.SourceLine.{SourceLine}
use Rattle.siman_plans.specs.declared.source.SourceMove.{SourceMove}
use Rattle.siman_plans.specs.declared.source.SourceMove.TheVariants as moves
use Rattle.siman_plans.specs.declared.source_fault.SourceFault.TheVariants.{BadLine}
use Rattle.siman_plans.specs.Source.{SourceData, source_at, source_reason_at}

-- A TEXT HAS A FIRST REASON OR IS A SOURCE, and the reason is of its bad line
abbrev pub Explains : List ℕ → Type 0
Explains text = result_err (source_at text) ≡ option_map (λ reason. BadLine reason.line) (source_reason_at text)

-- the time of the clocks after a line
abbrev pub clock_after : (clock : ℕ) → SourceMove → ℕ
clock_after clock (moves.At now) = now
clock_after clock _ = clock

-- the time of the clocks after lines
abbrev pub clock_of : (clock : ℕ) → List SourceLine → ℕ
clock_of clock [] = clock
clock_of clock (l ∷ ls) = clock_of (clock_after clock l.does) ls

-- the move that a line says at this time, if it names its datagram by number and its station
abbrev pub moves_by : (clock : ℕ) → SourceMove → List Move
moves_by clock (moves.Acts station act is_labelled) = record { now = clock; station = station; act = act } ∷ []
moves_by clock (moves.Brings (Number k) (Some station)) = record { now = clock; station = station; act = Deliver k } ∷ []
moves_by clock _ = []

-- the moves that lines say from this time on
abbrev pub moves_of : (clock : ℕ) → List SourceLine → List Move
moves_of clock [] = []
moves_of clock (l ∷ ls) = moves_by clock l.does ++ moves_of (clock_after clock l.does) ls

-- a source has the exercise, the stations and the moves of a script, and no labels
pub record Means (source : SourceData) (script : ScriptData) : Type 0 where
  pub exercise : source.exercise ≡ script.exercise
  pub stations : source.stations ≡ script.stations
  pub moves : moves_of 0 source.lines ≡ script.moves
  pub labels : source.labels ≡ []

-- EVERY SCRIPT IS A SOURCE, and means the same
abbrev pub IsSourceToo : List ℕ → Type 0
IsSourceToo text = (script : ScriptData) → script_at text ≡ Ok script → (source : SourceData) × (source_at text ≡ Ok source) × Means source script
