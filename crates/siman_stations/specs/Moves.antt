-- The effect of a move on the state of a world: on its journal, and on the manager and application of each station
-- (profile).
use Rattle.std.specs.Prelude.{◌≡◌, ℕ, ◌+◌, nat_le, List, length, slice_get, slice_set, Option, Some, None, if◌then◌else◌}
use Rattle.exercise_model.specs.declared.recording.TheConstants.{MOST_ENTRIES}
use Rattle.siman_scripts.specs.declared.act.Act.{Act}
use Rattle.siman_scripts.specs.declared.act.Move.{Move}
use Rattle.siman_stations.specs.declared.turn.Node.{Node}
use Rattle.siman_stations.specs.declared.world.World.{World}
use Rattle.siman_stations.specs.declared.world_fault.MoveFault.{MoveFault}
use Rattle.siman_stations.specs.declared.world_fault.MoveFault.TheVariants as faults
use Rattle.siman_stations.specs.declared.moving.StepFault.{StepFault}
use Rattle.siman_stations.specs.declared.moving.StepFault.TheVariants as step_faults
use Rattle.siman_stations.specs.World.{sent_in}
use Rattle.siman_stations.specs.Acts.{Writes, Goes, sends_of, halves_entries, halves_fault, RepeatsShort}

-- the invariant of a world: each station has its manager and application, the datagrams are those that the entries
-- send, and no repeat that is due is too long
pub record IsFit (w : World) : Type 0 where
  pub stations : length w.nodes.items ≡ length w.journal.recording.setting.stations
  pub sends : sends_of w.journal ≡ sent_in w.journal.recording.entries
  pub repeats : (s : ℕ) (n : Node) → slice_get w.nodes.items s ≡ Some n → RepeatsShort n.manager

-- the move was made: the manager and application of its station changed, those of the others did not, and the
-- entries were recorded
pub record Does (m : Move) (old new : World) : Type 0 where
  pub before : Node
  pub after : Node
  pub stood : slice_get old.nodes.items m.station ≡ Some before
  pub nodes : new.nodes.items ≡ slice_set old.nodes.items m.station after
  pub halves : Goes (sends_of old.journal) m.now m.act before after
  pub entries : Writes (halves_entries (sends_of old.journal) before m.station m.now m.act) old.journal new.journal

-- a move that is refused changes neither the recording nor the sent datagrams, nor any manager and application
abbrev pub Stays : World → World → StepFault → Type 0
Stays old new (step_faults.Move fault) =
    (new.journal.recording ≡ old.journal.recording) × (sends_of new.journal ≡ sends_of old.journal) × (new.nodes.items ≡ old.nodes.items)
Stays old new step_faults.Memory = Unit {0}

-- why a station, if there is such a station, cannot do an act
abbrev pub node_fault : List (List ℕ) → ℕ → Act → Option Node → Option MoveFault
node_fault sends now act None = Some faults.NoSuchStation
node_fault sends now act (Some n) = halves_fault sends n now act

-- why a move is not made
abbrev pub step_fault : World → Move → Option MoveFault
step_fault w m =
    if nat_le (length w.journal.recording.entries + 2) MOST_ENTRIES
    then node_fault (sends_of w.journal) m.now m.act (slice_get w.nodes.items m.station)
    else Some faults.Records
