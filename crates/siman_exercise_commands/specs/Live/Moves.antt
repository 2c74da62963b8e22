-- The moves of a script, made by stations at their links: why a move is not made, and the effect of one that is
-- (profile).
use Rattle.std.specs.Prelude.{◌≡◌, ◌⊎◌, ⊤, ℕ, ◌+◌, nat_le, List, length, slice_get, Option, Some, None, option_map, Result, Ok, Err, IfErr, if◌then◌else◌}
use Rattle.exercise_model.specs.declared.recording.TheConstants.{MOST_ENTRIES}
use Rattle.siman_scripts.specs.declared.act.Act.{Act}
use Rattle.siman_scripts.specs.declared.act.Act.TheVariants.{Command, Deliver, Tick, Tell}
use Rattle.siman_scripts.specs.declared.act.Move.{Move}
use Rattle.exercise_recording.specs.Writer.{WriterState}
use Rattle.siman_lines.specs.declared.fault.AtLineFault.{AtLineFault}
use Rattle.siman_lines.specs.declared.fault.AtLineFault.TheVariants as below
use Rattle.siman_lines.specs.declared.station_at_line.StationAtLine.{StationAtLine}
use Rattle.siman_lines.specs.AtLines.{Telling, AtLines, KeepsCounts, LeavesRefused, OrdersAt, RepeatsAt, TellsAt, One, RoundsEnd}
use Rattle.siman_lines.specs.Steps.{Each, Stops}
use Rattle.siman_stations.specs.declared.turn.Node.{Node}
use Rattle.siman_stations.specs.declared.world_fault.MoveFault.{MoveFault}
use Rattle.siman_stations.specs.declared.world_fault.MoveFault.TheVariants as moves
use Rattle.siman_stations.specs.Asked.{order_fault, tell_fault}
use Rattle.siman_stations.specs.Acts.{of_station, as_move}
use Rattle.siman_stations.specs.Moments.{moment_of}
use Rattle.siman_stations.specs.StationTurn.{stamp_of}
use Rattle.siman_outside.specs.declared.fault.Fault.{Fault}
use Rattle.siman_outside.specs.declared.fault.Fault.TheVariants as faults
use Rattle.siman_outside.specs.declared.fault.Fault.TheVariants.{LineFailed, Output, Memory}
use Rattle.siman_exercise_commands.specs.Refusals.{move_refusal}
use Rattle.siman_exercise_commands.specs.declared.live.moves.LiveMoveFault.{LiveMoveFault}
use Rattle.siman_exercise_commands.specs.declared.live.moves.LiveMoveFault.TheVariants as halts

-- WHY A STATION CANNOT DO AN ACT at its link: as in a world, except that a delivery does nothing
abbrev pub live_fault : Node → ℕ → Act → Option MoveFault
live_fault n now (Command order) = as_move (order_fault n.manager (stamp_of now) order)
live_fault n now (Deliver k) = None
live_fault n now Tick = None
live_fault n now (Tell e) = as_move (tell_fault e)

-- WHY A MOVE IS NOT MADE, given the number of entries so far and the node of its station, if there is such a
-- station: as in a world, except that a delivery does nothing
abbrev pub judged : (entries : ℕ) → Option Node → ℕ → Act → Option MoveFault
judged entries None now act = if nat_le (entries + 2) MOST_ENTRIES then Some moves.NoSuchStation else Some moves.Records
judged entries (Some n) now act = if nat_le (entries + 2) MOST_ENTRIES then live_fault n now act else Some moves.Records

abbrev pub move_fault : (entries : ℕ) → Option Node → ℕ → Act → Option MoveFault
move_fault entries there now (Command order) = judged entries there now (Command order)
move_fault entries there now (Deliver k) = None
move_fault entries there now Tick = judged entries there now Tick
move_fault entries there now (Tell e) = judged entries there now (Tell e)

-- the move is refused for the first reason against it; a link, the recorder or memory may fail at any time
abbrev pub Gives : Option MoveFault → LiveMoveFault → Type 0
Gives reason (halts.Move fault) = reason ≡ Some fault
Gives reason halts.Line = ⊤
Gives reason halts.Record = ⊤
Gives reason halts.Memory = ⊤

-- the fault of a halt at the move of a number
abbrev pub at_move : ℕ → LiveMoveFault → Fault
at_move number (halts.Move fault) = faults.Move number (move_refusal fault) None
at_move number halts.Line = LineFailed
at_move number halts.Record = Output
at_move number halts.Memory = Memory

-- the halt of a fault at a link, under the name of that fault
abbrev pub of_line : AtLineFault → LiveMoveFault
of_line (below.Station fault) = halts.Move (of_station fault)
of_line below.Line = halts.Line
of_line (below.Record fault) = halts.Record
of_line below.Memory = halts.Memory

-- the result of a call at a link, as the result of a move
abbrev pub of_done : Result (Unit {0}) AtLineFault → Result (Unit {0}) LiveMoveFault
of_done (Ok x) = Ok x
of_done (Err fault) = Err (of_line fault)

-- THE EFFECT OF AN ACT on a station at its link and its recorder: it issues the order, sends the repeat that is
-- due, or records the state; a delivery does nothing. Its counts of what was left out do not change; and if it
-- refuses the act, nothing does.
abbrev pub ActsAt : {L : Type 0} → Telling L → (now : ℕ) → Act → (done : Result (Unit {0}) AtLineFault) → (p : StationAtLine L) → (w : WriterState)
    → (q : StationAtLine L) → (v : WriterState) → Type 0
ActsAt told now (Command order) done p w q v = KeepsCounts p q × OrdersAt told (moment_of now) order p w q v done × IfErr done (LeavesRefused told p w q v)
ActsAt told now (Deliver k) done p w q v = (done ≡ Ok tt) × (q ≡ p) × (v ≡ w)
ActsAt told now Tick done p w q v = KeepsCounts p q × RepeatsAt told (moment_of now) p w q v done
ActsAt told now (Tell e) done p w q v = (q ≡ p) × TellsAt e p w v done × IfErr done (LeavesRefused told p w q v)

-- the result of an act at a link: it was done there, or the fault has the name of the one there
abbrev pub ActEnds : {L : Type 0} → Telling L → (now : ℕ) → Act → (reported_as : Result (Unit {0}) LiveMoveFault) → (p : StationAtLine L) → (w : WriterState)
    → (q : StationAtLine L) → (v : WriterState) → Type 0
ActEnds told now act reported_as p w q v = (done : Result (Unit {0}) AtLineFault) × (reported_as ≡ of_done done) × ActsAt told now act done p w q v

-- why a move is not made by these stations
abbrev pub reason_against : {L : Type 0} → AtLines L → Move → Option MoveFault
reason_against a step = move_fault a.recorder.entries (option_map (λ p. p.node) (slice_get a.stations step.station)) step.now step.act

-- FOUR ROUNDS, in each of which each station is served once, in their order, for at most 64 receives
abbrev pub ServesFour : {L : Type 0} → Telling L → (now : ℕ) → AtLines L → AtLines L → Result (Unit {0}) AtLineFault → Type 0
ServesFour told now old new done = RoundsEnd told (moment_of now) 4 64 old new done

-- A MOVE IS MADE: its station does its act, the others do not change, and then all are served in four rounds
pub record IsMade {L : Type 0} (told : Telling L) (now station : ℕ) (act : Act) (old new : AtLines L) : Type 0 where
  pub mid : AtLines L
  pub acts : One (ActsAt told now act (Ok tt)) station old mid
  pub serves : ServesFour told now mid new (Ok tt)

-- a move is made; a delivery does nothing
abbrev pub Moves : {L : Type 0} → Telling L → (now station : ℕ) → Act → AtLines L → AtLines L → Type 0
Moves told now station (Command order) old new = IsMade told now station (Command order) old new
Moves told now station (Deliver k) old new = new ≡ old
Moves told now station Tick old new = IsMade told now station Tick old new
Moves told now station (Tell e) old new = IsMade told now station (Tell e) old new

-- the move is refused before anything is done
pub record IsRefused {L : Type 0} (halt : LiveMoveFault) (old new : AtLines L) : Type 0 where
  pub fault : MoveFault
  pub named : halt ≡ halts.Move fault
  pub same : new ≡ old

-- its station failed in its act
pub record IsHindered {L : Type 0} (told : Telling L) (now station : ℕ) (act : Act) (halt : LiveMoveFault) (old new : AtLines L) : Type 0 where
  pub fault : AtLineFault
  pub named : halt ≡ of_line fault
  pub acts : One (ActsAt told now act (Err fault)) station old new

-- its station did its act, and then one of all stations could not be served
pub record IsUnserved {L : Type 0} (told : Telling L) (now station : ℕ) (act : Act) (halt : LiveMoveFault) (old new : AtLines L) : Type 0 where
  pub fault : AtLineFault
  pub named : halt ≡ of_line fault
  pub mid : AtLines L
  pub acts : One (ActsAt told now act (Ok tt)) station old mid
  pub serves : ServesFour told now mid new (Err fault)

-- A MOVE IS NOT MADE, with the name of its halt: it is refused, its station failed, or one of all could not be
-- served
abbrev pub IsHalted : {L : Type 0} → Telling L → Move → LiveMoveFault → AtLines L → AtLines L → Type 0
IsHalted told step halt old new =
    IsRefused halt old new ⊎ IsHindered told step.now step.station step.act halt old new ⊎ IsUnserved told step.now step.station step.act halt old new

-- the result of a move that is no delivery
abbrev pub JudgedEnds : {L : Type 0} → Telling L → Move → AtLines L → AtLines L → Result (Unit {0}) LiveMoveFault → Type 0
JudgedEnds told step old new (Ok x) = IsMade told step.now step.station step.act old new
JudgedEnds told step old new (Err halt) = IsHalted told step halt old new

-- THE RESULT OF A MOVE
abbrev pub MoveEnds : {L : Type 0} → Telling L → Move → AtLines L → AtLines L → Result (Unit {0}) LiveMoveFault → Type 0
MoveEnds told step old new (Ok x) = Moves told step.now step.station step.act old new
MoveEnds told step old new (Err halt) = IsHalted told step halt old new

-- the move of a number, from 0, is made, and there was no reason against it
pub record MakesAt {L : Type 0} (told : Telling L) (moves : List Move) (number : ℕ) (old new : AtLines L) : Type 0 where
  pub step : Move
  pub there : slice_get moves number ≡ Some step
  pub reason : reason_against old step ≡ None
  pub made : Moves told step.now step.station step.act old new

-- the move of a number is not made: the fault is the first reason against it, or that of the link
pub record HaltsAt {L : Type 0} (told : Telling L) (moves : List Move) (fault : Fault) (number : ℕ) (old new : AtLines L) : Type 0 where
  pub step : Move
  pub there : slice_get moves number ≡ Some step
  pub halt : LiveMoveFault
  pub reported_as : fault ≡ at_move number halt
  pub reason : Gives (reason_against old step) halt
  pub halted : IsHalted told step halt old new

-- THE RESULT OF MOVES: all are made, in their order; or those before one, with the fault of that one
abbrev pub MovesEnd : {L : Type 0} → Telling L → List Move → AtLines L → AtLines L → Result (Unit {0}) Fault → Type 0
MovesEnd told moves old new (Ok x) = Each (MakesAt told moves) (length moves) old new
MovesEnd told moves old new (Err fault) = Stops (MakesAt told moves) (HaltsAt told moves fault) (length moves) old new
