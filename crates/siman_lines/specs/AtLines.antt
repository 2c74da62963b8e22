-- Calls at stations and their links, one after the other (profile).
use Rattle.std.specs.Prelude.{◌≡◌, ◌≢◌, ℕ, ◌+◌, ◌<◌, ◌^◌, ◌-◌, min, Bool, false, not, ◌||◌, nat_lt, List, [], ◌∷◌, length, slice_get, slice_set, Option, Some, Result, Ok, Err, ◌⊎◌}
use Rattle.std.specs.List.{AllByRecursion, zip}
use Rattle.exercise_model.specs.Entry.{Entry, Told}
use Rattle.exercise_model.specs.History.{past}
use Rattle.exercise_model.specs.Run.{IsRun}
use Rattle.exercise_model.specs.Setting.{SettingData, IsSetting}
use Rattle.exercise_recording.specs.Writer.{WriterState}
use Rattle.siman_application.specs.Application.{came}
use Rattle.siman_application.specs.Play.{state_over}
use Rattle.siman_manager.specs.declared.fault.OrderFault.TheVariants as order_faults
use Rattle.siman_manager.specs.declared.order.Order.{Order}
use Rattle.siman_stations.specs.declared.moment.Moment.{Moment}
use Rattle.siman_stations.specs.declared.turn.Node.{Node}
use Rattle.siman_stations.specs.Asked.{order_fault, tell_fault}
use Rattle.siman_stations.specs.Recording.{WritesOne, WritesNone}
use Rattle.siman_lines.specs.declared.fault.AtLineFault.{AtLineFault}
use Rattle.siman_lines.specs.declared.fault.AtLineFault.TheVariants as faults
use Rattle.siman_lines.specs.declared.fault.IssueFault.TheVariants as issue_faults
use Rattle.siman_lines.specs.declared.fault.ServeFault.{ServeFault}
use Rattle.siman_lines.specs.declared.fault.ServeFault.TheVariants as serve_faults
use Rattle.siman_lines.specs.declared.served.Served.{Served}
use Rattle.siman_lines.specs.declared.station_at_line.StationAtLine.{StationAtLine}
use Rattle.siman_stations.specs.Deeds.{ReceivesSent}
use Rattle.siman_lines.specs.Calls.{IsFresh, Stations, AreCalls}
use Rattle.siman_lines.specs.KeptAtLine.{IsWritten}
use Rattle.siman_lines.specs.LineDatagrams.{Datagrams}
use Rattle.siman_lines.specs.Passed.{same_counts}
use Rattle.siman_lines.specs.declared.line.PassedOver.{PassedOver}
use Rattle.siman_lines.specs.Ordering.{Rests, IssueEndsAt, NudgeEndsAt}
use Rattle.siman_lines.specs.Serving.{State, ServeEndsAt}
use Rattle.siman_lines.specs.Steps.{Each, Stops}

-- what links of a kind specify: the datagrams that they returned and were passed, how many calls failed, and how
-- many datagrams they passed over
pub record Telling (L : Type 0) : Type 0 where
  pub received : L → Option Datagrams
  pub sent : L → Option Datagrams
  pub failures : L → ℕ
  pub passed : L → PassedOver

-- the state of a station at its link, with a recorder
abbrev pub state_at : {L : Type 0} → Telling L → StationAtLine L → WriterState → State
state_at told p w =
    record { node = p.node; recorder = w; received = told.received p.line; sent = told.sent p.line; failures = told.failures p.line }

-- stations at their links, with one recorder
pub record AtLines (L : Type 0) : Type 0 where
  pub stations : List (StationAtLine L)
  pub recorder : WriterState

-- stations as they are attached to their links, from this index on, each with its node and its link
abbrev pub posts_from : {L : Type 0} → ℕ → List (Node × L) → List (StationAtLine L)
posts_from i [] = []
posts_from i (p ∷ ps) = record { index = i; node = p.0; line = p.1; dropped = 0; busy = false } ∷ posts_from (i + 1) ps

-- POST i HAS NODE i, LINK i AND STATION i
abbrev pub posts_of : {L : Type 0} → List Node → List L → List (StationAtLine L)
posts_of nodes lines = posts_from 0 (zip nodes lines)

-- links are refused if they are not as many as the stations, or if there are more than have an index
abbrev pub Misfits : {A B : Type 0} → List A → List B → Type 0
Misfits nodes lines = (length lines ≢ length nodes) ⊎ (2 ^ 16 < length nodes)

-- ONE STATION, before and after, with its recorder.

-- an order: it was issued; or there is a reason against it; or the fault of the call has this name
abbrev pub OrdersAt : {L : Type 0} → Telling L → Moment → Order → (p : StationAtLine L) → (w : WriterState) → (q : StationAtLine L) → (v : WriterState)
    → Result (Unit {0}) AtLineFault → Type 0
OrdersAt told at order p w q v (Ok x) = (id : ℕ) × IssueEndsAt p.index at order (state_at told p w) (state_at told q v) (Ok id)
OrdersAt told at order p w q v (Err (faults.Station fault)) = order_fault p.node.manager at.stamp order ≡ Some fault
OrdersAt told at order p w q v (Err faults.Line) = IssueEndsAt p.index at order (state_at told p w) (state_at told q v) (Err issue_faults.Send)
OrdersAt told at order p w q v (Err (faults.Record fault)) =
    IssueEndsAt p.index at order (state_at told p w) (state_at told q v) (Err (issue_faults.Record fault))
OrdersAt told at order p w q v (Err faults.Memory) =
    IssueEndsAt p.index at order (state_at told p w) (state_at told q v) (Err issue_faults.Memory)
    ⊎ IssueEndsAt p.index at order (state_at told p w) (state_at told q v) (Err (issue_faults.Order order_faults.Memory))

-- the repeat that is due
abbrev pub RepeatsAt : {L : Type 0} → Telling L → Moment → (p : StationAtLine L) → (w : WriterState) → (q : StationAtLine L) → (v : WriterState)
    → Result (Unit {0}) AtLineFault → Type 0
RepeatsAt told at p w q v (Ok x) = (due : Bool) × NudgeEndsAt p.index at (state_at told p w) (state_at told q v) (Ok due)
RepeatsAt told at p w q v (Err (faults.Station fault)) = ⊥
RepeatsAt told at p w q v (Err faults.Line) = NudgeEndsAt p.index at (state_at told p w) (state_at told q v) (Err issue_faults.Send)
RepeatsAt told at p w q v (Err (faults.Record fault)) = NudgeEndsAt p.index at (state_at told p w) (state_at told q v) (Err (issue_faults.Record fault))
RepeatsAt told at p w q v (Err faults.Memory) = NudgeEndsAt p.index at (state_at told p w) (state_at told q v) (Err issue_faults.Memory)

-- the state of an entity is recorded, as the application has it
abbrev pub TellsAt : {L : Type 0} → (e : ℕ) → (p : StationAtLine L) → (w v : WriterState) → Result (Unit {0}) AtLineFault → Type 0
TellsAt e p w v (Ok x) = WritesOne w (Told p.index e (state_over p.node.application.outfit (came p.node.application) e)) v
TellsAt e p w v (Err (faults.Station fault)) = tell_fault e ≡ Some fault
TellsAt e p w v (Err faults.Line) = ⊥
TellsAt e p w v (Err (faults.Record fault)) =
    WritesNone w (Told p.index e (state_over p.node.application.outfit (came p.node.application) e)) fault v
TellsAt e p w v (Err faults.Memory) = ⊥

-- an order and a repeat change neither the index of a station nor its counts of what was left out
pub record KeepsCounts {L : Type 0} (p q : StationAtLine L) : Type 0 where
  pub index : q.index ≡ p.index
  pub dropped : q.dropped ≡ p.dropped
  pub busy : q.busy ≡ p.busy

-- AFTER A REFUSAL BY THE STATION its node, its recorder and its link are unchanged
abbrev pub LeavesRefused : {L : Type 0} → Telling L → (p : StationAtLine L) → (w : WriterState) → (q : StationAtLine L) → (v : WriterState) → AtLineFault → Type 0
LeavesRefused told p w q v (faults.Station fault) = (q.node ≡ p.node) × Rests (state_at told p w) (state_at told q v)
LeavesRefused told p w q v faults.Line = Unit {0}
LeavesRefused told p w q v (faults.Record fault) = Unit {0}
LeavesRefused told p w q v faults.Memory = Unit {0}

-- the fault at a station of a fault in its service
abbrev pub of_serve : ServeFault → AtLineFault
of_serve serve_faults.Receive = faults.Line
of_serve serve_faults.Send = faults.Line
of_serve (serve_faults.Record fault) = faults.Record fault
of_serve serve_faults.Memory = faults.Memory

-- SOMETHING MAY BE LEFT to serve: it took or dropped something, its link passed a datagram over, or it was not idle
abbrev pub is_busy : Served → (met : Bool) → Bool
is_busy served met = nat_lt 0 served.taken || nat_lt 0 served.dropped || met || not served.idle

-- it was served; its counts have what it dropped so far, and whether something may be left
pub record ServedAt {L : Type 0} (told : Telling L) (at : Moment) (turns : ℕ) (p : StationAtLine L) (w : WriterState) (q : StationAtLine L) (v : WriterState) : Type 0 where
  pub served : Served
  pub ends : ServeEndsAt p.index at turns (state_at told p w) (state_at told q v) (Ok served)
  pub index : q.index ≡ p.index
  pub dropped : q.dropped ≡ min (p.dropped + served.dropped) (2 ^ 64 - 1)
  pub busy : q.busy ≡ is_busy served (not (same_counts (told.passed q.line) (told.passed p.line)))

-- its service failed, with the fault of the failed turn
pub record UnservedAt {L : Type 0} (told : Telling L) (at : Moment) (turns : ℕ) (fault : AtLineFault) (p : StationAtLine L) (w : WriterState) (q : StationAtLine L) (v : WriterState) : Type 0 where
  pub below : ServeFault
  pub ends : ServeEndsAt p.index at turns (state_at told p w) (state_at told q v) (Err below)
  pub index : q.index ≡ p.index
  pub named : fault ≡ of_serve below

abbrev pub ServesAt : {L : Type 0} → Telling L → (at : Moment) (turns : ℕ) → (p : StationAtLine L) → (w : WriterState) → (q : StationAtLine L) → (v : WriterState)
    → Result (Unit {0}) AtLineFault → Type 0
ServesAt told at turns p w q v (Ok x) = ServedAt told at turns p w q v
ServesAt told at turns p w q v (Err fault) = UnservedAt told at turns fault p w q v

-- ALL STATIONS.

-- the station of a number did this, and the others are unchanged
pub record One {L : Type 0} (Does : StationAtLine L → WriterState → StationAtLine L → WriterState → Type 0) (number : ℕ) (old new : AtLines L) : Type 0 where
  pub before : StationAtLine L
  pub after : StationAtLine L
  pub there : slice_get old.stations number ≡ Some before
  pub others : new.stations ≡ slice_set old.stations number after
  pub does : Does before old.recorder after new.recorder

-- A ROUND: each station is served once, in their order
abbrev pub Round : {L : Type 0} → Telling L → (at : Moment) (turns : ℕ) → AtLines L → AtLines L → Type 0
Round told at turns old new = Each (One (ServedAt told at turns)) (length old.stations) old new

abbrev pub FailsRound : {L : Type 0} → Telling L → (at : Moment) (turns : ℕ) → AtLineFault → AtLines L → AtLines L → Type 0
FailsRound told at turns fault old new = Stops (One (ServedAt told at turns)) (One (UnservedAt told at turns fault)) (length old.stations) old new

abbrev pub RoundEnds : {L : Type 0} → Telling L → (at : Moment) (turns : ℕ) → AtLines L → AtLines L → Result (Unit {0}) AtLineFault → Type 0
RoundEnds told at turns old new (Ok x) = Round told at turns old new
RoundEnds told at turns old new (Err fault) = FailsRound told at turns fault old new

-- ROUNDS, one after the other
abbrev pub RoundsEnd : {L : Type 0} → Telling L → (at : Moment) (rounds turns : ℕ) → AtLines L → AtLines L → Result (Unit {0}) AtLineFault → Type 0
RoundsEnd told at rounds turns old new (Ok x) = Each (λ number. Round told at turns) rounds old new
RoundsEnd told at rounds turns old new (Err fault) = Stops (λ number. Round told at turns) (λ number. FailsRound told at turns fault) rounds old new

-- AS CALLS.

-- the station of a number has this node and this link among these stations
pub record IsPost {L : Type 0} (told : Telling L) (number : ℕ) (p : StationAtLine L) (x : Stations) : Type 0 where
  pub index : p.index ≡ number
  pub node : x.node number ≡ p.node
  pub handed : x.handed number ≡ told.sent p.line

-- STATIONS AT THEIR LINKS are these stations with one recorder, by their indices
pub record Are {L : Type 0} (told : Telling L) (old : AtLines L) (x : Stations) : Type 0 where
  pub posts : (number : ℕ) (p : StationAtLine L) → slice_get old.stations number ≡ Some p → IsPost told number p x
  pub recorder : x.recorder ≡ old.recorder

-- calls at stations below this number, which lead from the first stations to others, which are the second
pub record Leads {L : Type 0} (told : Telling L) (x : Stations) (count : ℕ) (new : AtLines L) : Type 0 where
  pub calls : List ℕ
  pub after : Stations
  pub within : AllByRecursion (λ s. s < count) calls
  pub made : AreCalls calls x after
  pub are : Are told new after

-- THE EFFECT OF CALLS: there are as many stations, and calls lead from the first state to the second
pub record Follows {L : Type 0} (told : Telling L) (old new : AtLines L) : Type 0 where
  pub count : length new.stations ≡ length old.stations
  pub leads : (x : Stations) → Are told old x → Leads told x (length old.stations) new

-- STATIONS AT THEIR LINKS IN THEIR INITIAL STATE: post i has station i of the setting, which received nothing and
-- made no order, and whose link has sent nothing
pub record AreFresh {L : Type 0} (told : Telling L) (w : SettingData) (ps : List (StationAtLine L)) : Type 0 where
  pub setting : IsSetting w
  pub some : 0 < length ps
  pub count : length ps ≡ length w.stations
  pub index : (number : ℕ) (p : StationAtLine L) → slice_get ps number ≡ Some p → p.index ≡ number
  pub fresh : (number : ℕ) (p : StationAtLine L) → slice_get ps number ≡ Some p → IsFresh number p.node w (told.sent p.line)

-- these entries are a run in the order of the file, if each received datagram that is not other was sent before
abbrev pub AreRun : SettingData → List Entry → Type 0
AreRun w es = ReceivesSent w (past es) → IsRun w (past es)

-- THE OUTPUT OF A RECORDER that began with this setting: these entries whole, which are a run if what was received
-- was sent before
pub record HasRecorded (before : Option (List ℕ)) (w : SettingData) (recorder : WriterState) (es : List Entry) : Type 0 where
  pub setting : recorder.setting ≡ w
  pub written : IsWritten before recorder es
  pub run : AreRun w es
