-- Moves of stations at their links, and their effects (profile).
use Rattle.std.specs.Prelude.{◌≡◌, ◌⊎◌, ℕ, List, length, slice_get, Some, None, Result, Ok, Err, IfErr}
use Rattle.exercise_recording.specs.Writer.{WriterState}
use Rattle.siman_scripts.specs.declared.act.Act.{Act}
use Rattle.siman_scripts.specs.declared.act.Act.TheVariants.{Command, Deliver, Tick, Tell}
use Rattle.siman_scripts.specs.declared.act.Move.{Move}
use Rattle.siman_lines.specs.declared.fault.AtLineFault.{AtLineFault}
use Rattle.siman_lines.specs.declared.station_at_line.StationAtLine.{StationAtLine}
use Rattle.siman_lines.specs.AtLines.{Telling, AtLines, KeepsCounts, LeavesRefused, OrdersAt, RepeatsAt, TellsAt, One, RoundsEnd}
use Rattle.siman_lines.specs.Steps.{Each, Stops}
use Rattle.siman_stations.specs.Moments.{moment_of}
use Rattle.siman_trials.specs.declared.performed.LinkMoveFault.{LinkMoveFault}
use Rattle.siman_trials.specs.declared.performed.LinkMoveFault.TheVariants.{NoSuchStation, AtLine}

-- EFFECT OF AN ACT of a station at its link, before and after, with its recorder: it issues the order, sends the repeat that is due, or records the state; a delivery does nothing. An order and a repeat leave the counts of what was left out as they were; where the station refuses an order or a state, all else is as it was too.
abbrev pub ActsAt : {L : Type 0} → Telling L → (now : ℕ) → Act → (done : Result (Unit {0}) AtLineFault) → (p : StationAtLine L) → (w : WriterState)
    → (q : StationAtLine L) → (v : WriterState) → Type 0
ActsAt told now (Command order) done p w q v = KeepsCounts p q × OrdersAt told (moment_of now) order p w q v done × IfErr done (LeavesRefused told p w q v)
ActsAt told now (Deliver k) done p w q v = (done ≡ Ok tt) × (q ≡ p) × (v ≡ w)
ActsAt told now Tick done p w q v = KeepsCounts p q × RepeatsAt told (moment_of now) p w q v done
ActsAt told now (Tell e) done p w q v = (q ≡ p) × TellsAt e p w v done × IfErr done (LeavesRefused told p w q v)

-- FOUR ROUNDS, each serving each station once, in order, for at most 64 receives.
abbrev pub ServesFour : {L : Type 0} → Telling L → (now : ℕ) → AtLines L → AtLines L → Result (Unit {0}) AtLineFault → Type 0
ServesFour told now old new done = RoundsEnd told (moment_of now) 4 64 old new done

-- A MOVE IS MADE: its station carries out its act, the others are unchanged, and then four rounds serve all stations.
pub record IsMade {L : Type 0} (told : Telling L) (step : Move) (old new : AtLines L) : Type 0 where
  pub mid : AtLines L
  pub acts : One (ActsAt told step.now step.act (Ok tt)) step.station old mid
  pub serves : ServesFour told step.now mid new (Ok tt)

-- Its station carried out its act, but serving the stations failed.
pub record IsUnserved {L : Type 0} (told : Telling L) (step : Move) (fault : AtLineFault) (old new : AtLines L) : Type 0 where
  pub mid : AtLines L
  pub acts : One (ActsAt told step.now step.act (Ok tt)) step.station old mid
  pub serves : ServesFour told step.now mid new (Err fault)

-- A MOVE IS NOT MADE: there is no such station, and nothing is done; or its station or the serving of the stations failed, with the fault that is returned.
abbrev pub IsHalted : {L : Type 0} → Telling L → Move → LinkMoveFault → AtLines L → AtLines L → Type 0
IsHalted told step NoSuchStation old new = (slice_get old.stations step.station ≡ None) × (new ≡ old)
IsHalted told step (AtLine fault) old new =
    One (ActsAt told step.now step.act (Err fault)) step.station old new ⊎ IsUnserved told step fault old new

-- RESULT OF A MOVE.
abbrev pub MoveEnds : {L : Type 0} → Telling L → Move → AtLines L → AtLines L → Result (Unit {0}) LinkMoveFault → Type 0
MoveEnds told step old new (Ok x) = IsMade told step old new
MoveEnds told step old new (Err halt) = IsHalted told step halt old new

-- The move with this number, from 0, is made.
pub record MakesAt {L : Type 0} (told : Telling L) (moves : List Move) (number : ℕ) (old new : AtLines L) : Type 0 where
  pub step : Move
  pub there : slice_get moves number ≡ Some step
  pub made : IsMade told step old new

-- The move with this number, from 0, is not made, for this reason.
pub record HaltsAt {L : Type 0} (told : Telling L) (moves : List Move) (halt : LinkMoveFault) (number : ℕ) (old new : AtLines L) : Type 0 where
  pub step : Move
  pub there : slice_get moves number ≡ Some step
  pub halted : IsHalted told step halt old new

-- RESULT OF MOVES: all are made, in order; or those before one are, and the reason why that one is not is returned.
abbrev pub MovesEnd : {L : Type 0} → Telling L → List Move → AtLines L → AtLines L → Result (Unit {0}) LinkMoveFault → Type 0
MovesEnd told moves old new (Ok x) = Each (MakesAt told moves) (length moves) old new
MovesEnd told moves old new (Err halt) = Stops (MakesAt told moves) (HaltsAt told moves halt) (length moves) old new
