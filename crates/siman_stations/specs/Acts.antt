-- The effect of a station's acts on the state of a world: on its journal, and on the manager and application of the
-- station (profile).
use Rattle.std.specs.Prelude.{◌≡◌, ℕ, ◌+◌, ◌<◌, ◌≤◌, nat_lt, List, [], ◌∷◌, ◌++◌, length, map, slice_get, Option, Some, None, IfSome, option_map, option_and_then, if◌then◌else◌}
use Rattle.dis_records.specs.declared.header.TheConstants.{LARGEST_DATAGRAM}
use Rattle.siman_pdus.specs.Reading.{reading}
use Rattle.siman_pdus.specs.Spelling.{pdu_size}
use Rattle.exercise_model.specs.declared.recording.TheConstants.{MOST_ENTRIES}
use Rattle.exercise_model.specs.Entry.{Entry, Told}
use Rattle.exercise_model.specs.declared.fault.LogFault.{LogFault}
use Rattle.exercise_model.specs.Recording.{PlainRecording, unless_memory}
use Rattle.siman_application.specs.Play.{state_over}
use Rattle.siman_application.specs.Application.{ApplicationData, came}
use Rattle.siman_manager.specs.Book.{Book}
use Rattle.siman_scripts.specs.declared.act.Act.{Act}
use Rattle.siman_scripts.specs.declared.act.Act.TheVariants.{Command, Deliver, Tick, Tell}
use Rattle.siman_stations.specs.declared.journal.Journal.{Journal}
use Rattle.siman_stations.specs.declared.turn.Node.{Node}
use Rattle.siman_stations.specs.declared.turn.TurnFault.{TurnFault}
use Rattle.siman_stations.specs.declared.turn.TurnFault.TheVariants as turn_faults
use Rattle.siman_stations.specs.declared.world_fault.MoveFault.{MoveFault}
use Rattle.siman_stations.specs.declared.world_fault.MoveFault.TheVariants as faults
use Rattle.siman_stations.specs.declared.world_fault.WorldFault.{WorldFault}
use Rattle.siman_stations.specs.declared.world_fault.WorldFault.TheVariants as world_faults
use Rattle.siman_stations.specs.declared.moving.StepFault.{StepFault}
use Rattle.siman_stations.specs.declared.moving.StepFault.TheVariants as step_faults
use Rattle.siman_stations.specs.declared.station_fault.StationFault.{StationFault}
use Rattle.siman_stations.specs.declared.station_fault.StationFault.TheVariants as station_faults
use Rattle.siman_stations.specs.Asked.{order_fault, tell_fault}
use Rattle.siman_stations.specs.Moments.{moment_of}
use Rattle.siman_stations.specs.Sending.{next_order, after_order, next_repeat, after_tick}
use Rattle.siman_stations.specs.StationTurn.{stamp_of, sent_as, turn_entries, TakesBoth}
use Rattle.siman_stations.specs.World.{sent_in}

-- The journal.

-- the datagrams that were sent, by their numbers
abbrev pub sends_of : Journal → List (List ℕ)
sends_of j = map (λ b. b.items) j.sends.items

-- the recording with some more entries
abbrev pub with_entries : PlainRecording → List Entry → PlainRecording
with_entries r es = record r { entries = r.entries ++ es }

-- exactly these entries were recorded; the datagrams that they send have the next numbers
pub record Writes (es : List Entry) (old new : Journal) : Type 0 where
  pub recording : new.recording ≡ with_entries old.recording es
  pub sends : sends_of new ≡ sends_of old ++ sent_in es

-- the station is one of the recording's, and two more entries fit
pub record HasRoom (s : ℕ) (r : PlainRecording) : Type 0 where
  pub station : s < length r.setting.stations
  pub two : length r.entries + 2 ≤ MOST_ENTRIES

-- The node.

-- the fault of a move whose station refuses it
abbrev pub of_station : StationFault → MoveFault
of_station station_faults.NoSuchEntity = faults.NoSuchEntity
of_station station_faults.NotARequest = faults.NotARequest
of_station (station_faults.Order fault) = faults.Order fault

abbrev pub as_move : Option StationFault → Option MoveFault
as_move o = option_map of_station o

-- why a datagram cannot be delivered
abbrev pub send_fault : List (List ℕ) → ℕ → Option MoveFault
send_fault sends k = if nat_lt k (length sends) then None else Some faults.NoSuchSend

-- the entries of a received datagram, if there is such a datagram
abbrev pub turn_if : ApplicationData → ℕ → ℕ → Option (List ℕ) → List Entry
turn_if a s now None = []
turn_if a s now (Some b) = turn_entries a s (moment_of now) b

-- An act.

-- why an act is not done, after these datagrams were sent
abbrev pub halves_fault : List (List ℕ) → Node → ℕ → Act → Option MoveFault
halves_fault sends n now (Command order) = as_move (order_fault n.manager (stamp_of now) order)
halves_fault sends n now (Deliver k) = send_fault sends k
halves_fault sends n now Tick = None
halves_fault sends n now (Tell e) = as_move (tell_fault e)

-- the entries that an act makes
abbrev pub halves_entries : List (List ℕ) → Node → ℕ → ℕ → Act → List Entry
halves_entries sends n s now (Command order) = sent_as s now (Some (next_order n.manager (stamp_of now) order))
halves_entries sends n s now (Deliver k) = turn_if n.application s now (slice_get sends k)
halves_entries sends n s now Tick = sent_as s now (next_repeat n.manager (moment_of now))
halves_entries sends n s now (Tell e) = Told s e (state_over n.application.outfit (came n.application) e) ∷ []

-- the effect of an act on manager and application
abbrev pub Goes : List (List ℕ) → ℕ → Act → Node → Node → Type 0
Goes sends now (Command order) old new = new ≡ after_order old (moment_of now) order
Goes sends now (Deliver k) old new = TakesBoth (option_and_then reading (slice_get sends k)) old new
Goes sends now Tick old new = new ≡ after_tick old (moment_of now)
Goes sends now (Tell e) old new = new ≡ old

-- a fault of a move is the reason against it; any other is lack of memory
abbrev pub Gives : Option MoveFault → StepFault → Type 0
Gives reason (step_faults.Move fault) = reason ≡ Some fault
Gives reason step_faults.Memory = Unit {0}

-- an act that is refused changes neither the recording nor the sent datagrams, nor manager and application
abbrev pub Keeps : (journal : Journal) → (n : Node) → (after : Journal) → (m : Node) → StepFault → Type 0
Keeps journal n after m (step_faults.Move fault) = (after.recording ≡ journal.recording) × (sends_of after ≡ sends_of journal) × (m ≡ n)
Keeps journal n after m step_faults.Memory = Unit {0}

-- the fault of a world whose move of a number was not made
abbrev pub at_move : ℕ → StepFault → WorldFault
at_move number (step_faults.Move fault) = world_faults.Move number fault
at_move number step_faults.Memory = world_faults.Memory

-- the fault of a turn is lack of memory, at its own work or at a record
abbrev pub LacksMemory : TurnFault LogFault → Type 0
LacksMemory (turn_faults.Record fault) = unless_memory fault ≡ None
LacksMemory turn_faults.Memory = Unit {0}

-- no sent datagram is too long
abbrev pub AreShort : List (List ℕ) → Type 0
AreShort sends = (k : ℕ) (b : List ℕ) → slice_get sends k ≡ Some b → length b ≤ LARGEST_DATAGRAM

-- a repeat that is due is not too long
abbrev pub RepeatsShort : Book → Type 0
RepeatsShort b = (now : ℕ) → IfSome (next_repeat b (moment_of now)) (λ p. pdu_size p ≤ LARGEST_DATAGRAM)
