-- Waits between blocked stations (profile).
use Rattle.std.specs.Prelude.{◌≡◌, ◌≤◌, ℕ, List, [], ◌∷◌, ◌==◌, Option, Some, None, option_map, option_and_then, slice_get, if◌then◌else◌}
use Rattle.std.specs.List.{filter_map}
use Rattle.exercise_model.specs.Entry.{Entry, Received}
use Rattle.exercise_model.specs.Recording.{PlainRecording}
use Rattle.exercise_model.specs.History.{Event, Send, event_of, station_of}
use Rattle.exercise_model.specs.Place.{own_event}
use Rattle.exercise_findings.specs.Source.{source_of}
use Rattle.exercise_check.specs.Judging.{is_never_sent}
use Rattle.exercise_audit.specs.declared.blocks.Block.{Block}
use Rattle.exercise_conflict.specs.declared.waits.Wait.{Wait}

-- the block of a station, if it has one
unfoldable pub block_of : List Block → ℕ → Option Block
block_of [] s = None
block_of (b ∷ blocks) s = if b.station == s then Some b else block_of blocks s

-- the station of block b waits for entry `sent` of station `on`, which has the other block
abbrev pub waits_on : Block → ℕ → ℕ → Block → Wait
waits_on b sent on other = record { entry = b.entry; station = b.station; sent = sent; on = on; next = other.entry }

abbrev pub wait_by : List Block → Block → ℕ → Entry → Option Wait
wait_by blocks b sent e = option_map (waits_on b sent (station_of (event_of e))) (block_of blocks (station_of (event_of e)))

abbrev pub wait_for : PlainRecording → List Block → Block → ℕ → Option Wait
wait_for r blocks b sent = option_and_then (wait_by blocks b sent) (slice_get r.entries sent)

-- THE WAIT OF A BLOCKED STATION: for the source of the datagram that it is to receive, if its cause is NeverSent and the station of the source is blocked too
unfoldable pub wait_of : PlainRecording → List Block → Block → Option Wait
wait_of r blocks b = if is_never_sent b.cause then option_and_then (wait_for r blocks b) (source_of r b.entry) else None

-- THE WAITS of a blocked list, in its order
abbrev pub waits_of : PlainRecording → List Block → List Wait
waits_of r blocks = filter_map (wait_of r blocks) blocks

-- THE MEANING OF A WAIT: its entry receives a datagram at its station; the source of that datagram is entry `sent` of station `on`,
-- and entry `next` of that station is no later
pub record IsWait (r : PlainRecording) (w : Wait) : Type 0 where
  pub stamp : ℕ
  pub bytes : List ℕ
  pub got : slice_get r.entries w.entry ≡ Some (Received w.station stamp bytes)
  pub source : source_of r w.entry ≡ Some w.sent
  pub sends : own_event r w.on w.sent ≡ Some (Send w.on bytes)
  pub event : Event
  pub next : own_event r w.on w.next ≡ Some event
  pub earlier : w.next ≤ w.sent

-- the station of block b waits, and so leads to another station's block
pub record Leads (r : PlainRecording) (blocks : List Block) (b : Block) : Type 0 where
  pub wait : Wait
  pub is : wait_of r blocks b ≡ Some wait
  pub holds : IsWait r wait
  pub other : Block
  pub on : block_of blocks wait.on ≡ Some other
  pub next : wait.next ≡ other.entry
