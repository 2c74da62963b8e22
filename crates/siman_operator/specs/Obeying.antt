-- The effect of a line of text at a post (profile).
use Rattle.std.specs.Prelude.{◌≡◌, ◌≢◌, ◌⊎◌, ℕ, Option, Some, None, Result, Ok, Err}
use Rattle.dis_records.specs.declared.address.SiteApplication.{SiteApplication}
use Rattle.exercise_recording.specs.Writer.{WriterState}
use Rattle.siman_lines.specs.declared.fault.AtLineFault.{AtLineFault}
use Rattle.siman_lines.specs.declared.fault.AtLineFault.TheVariants as below
use Rattle.siman_lines.specs.declared.station_at_line.StationAtLine.{StationAtLine}
use Rattle.siman_lines.specs.AtLines.{Telling, OrdersAt, RepeatsAt, TellsAt}
use Rattle.siman_scripts.specs.declared.command.Command.{Command}
use Rattle.siman_scripts.specs.declared.command.Command.TheVariants as commands
use Rattle.siman_scripts.specs.declared.command.StationTask.{StationTask}
use Rattle.siman_scripts.specs.declared.command.StationTask.TheVariants as tasks
use Rattle.siman_stations.specs.declared.moment.Moment.{Moment}
use Rattle.siman_stations.specs.Moments.{moment_of}
use Rattle.siman_operator.specs.declared.clock.ClockSource.{ClockSource}
use Rattle.siman_operator.specs.declared.clock.ClockSource.TheVariants as sources
use Rattle.siman_operator.specs.declared.obeying.Rejection.{Rejection}
use Rattle.siman_operator.specs.declared.obeying.Rejection.TheVariants as undone

-- the reason of a fault at a station
abbrev pub rejection_of : AtLineFault → Rejection
rejection_of (below.Station fault) = undone.Station fault
rejection_of below.Line = undone.Line
rejection_of (below.Record fault) = undone.Record
rejection_of below.Memory = undone.Memory

abbrev pub reported_as : Result (Unit {0}) AtLineFault → Result (Unit {0}) Rejection
reported_as (Ok x) = Ok x
reported_as (Err fault) = Err (rejection_of fault)

-- A STATION DOES A TASK, before and after, with its recorder
abbrev pub DoesTask : {L : Type 0} → Telling L → (at : Moment) → StationTask → (p : StationAtLine L) → (w : WriterState) → (q : StationAtLine L) → (v : WriterState)
    → Result (Unit {0}) AtLineFault → Type 0
DoesTask told at (tasks.Order order) p w q v done = OrdersAt told at order p w q v done
DoesTask told at tasks.Repeat p w q v done = RepeatsAt told at p w q v done
DoesTask told at (tasks.Tell e) p w q v done = (q ≡ p) × TellsAt e p w v done

-- nothing is done
abbrev pub Rests : {L : Type 0} → (p : StationAtLine L) → (w : WriterState) → (q : StationAtLine L) → (v : WriterState) → Type 0
Rests p w q v = (q ≡ p) × (v ≡ w)

-- the station does a task, if the line names its address; another address is unknown
abbrev pub DoesAsked : {L : Type 0} → Telling L → (own : SiteApplication) → (at : Moment) → (named : SiteApplication) → StationTask → (p : StationAtLine L) → (w : WriterState)
    → (q : StationAtLine L) → (v : WriterState) → Result (Unit {0}) Rejection → Type 0
DoesAsked told own at named task p w q v result =
    ((named ≢ own) × (result ≡ Err undone.UnknownStation) × Rests p w q v)
    ⊎ ((named ≡ own) × ((done : Result (Unit {0}) AtLineFault) × (result ≡ reported_as done) × DoesTask told at task p w q v done))

-- a line sets the clock to this time; it does not, if the clock is the system's
abbrev pub SetsClock : ClockSource → (time : ℕ) → (at later : Moment) → Result (Unit {0}) Rejection → Type 0
SetsClock sources.Lines time at later result = (result ≡ Ok tt) × (later ≡ moment_of time)
SetsClock (sources.System wait) time at later result = (result ≡ Err undone.SystemClock) × (later ≡ at)

-- THE EFFECT OF A LINE with this command at a post, given its clock before and after; memory may run out before
-- anything is done
abbrev pub ObeysIt : {L : Type 0} → Telling L → ClockSource → (own : SiteApplication) → Option Command → (at later : Moment) → (p : StationAtLine L) → (w : WriterState)
    → (q : StationAtLine L) → (v : WriterState) → Result (Unit {0}) Rejection → Type 0
ObeysIt told source own None at later p w q v result = (result ≡ Err undone.BadLine) × (later ≡ at) × Rests p w q v
ObeysIt told source own (Some commands.Nothing) at later p w q v result = (result ≡ Ok tt) × (later ≡ at) × Rests p w q v
ObeysIt told source own (Some (commands.At n)) at later p w q v result = SetsClock source n at later result × Rests p w q v
ObeysIt told source own (Some (commands.Asks named task)) at later p w q v result = (later ≡ at) × DoesAsked told own at named task p w q v result

abbrev pub Obeys : {L : Type 0} → Telling L → ClockSource → (own : SiteApplication) → Option Command → (at later : Moment) → (p : StationAtLine L) → (w : WriterState)
    → (q : StationAtLine L) → (v : WriterState) → Result (Unit {0}) Rejection → Type 0
Obeys told source own said at later p w q v result =
    ObeysIt told source own said at later p w q v result ⊎ ((result ≡ Err undone.Memory) × (later ≡ at) × Rests p w q v)
