-- What the search knows of each station (profile).
use Rattle.std.specs.Prelude.{◌≡◌, ◌≢◌, ◌<◌, ◌⊎◌, ℕ, List, length, Contains, Option, Some, None, IfSome, slice_get}
use Rattle.exercise_model.specs.declared.cause.Cause.{Cause}
use Rattle.exercise_model.specs.declared.cause.Cause.TheVariants.{NeverSent}
use Rattle.exercise_model.specs.Recording.{PlainRecording}
use Rattle.exercise_model.specs.Stamps.{stamp_of}
use Rattle.exercise_model.specs.History.{Event, event_of}
use Rattle.exercise_model.specs.Cause.{IsAllowed}
use Rattle.exercise_findings.specs.Source.{source_of}
use Rattle.exercise_check.specs.Course.{CourseData, IsCourse, so_far}
use Rattle.exercise_audit.specs.declared.blocks.Block.{Block}
use Rattle.exercise_audit.specs.declared.turns.Moment.{Moment}
use Rattle.exercise_audit.specs.Next.{IsNextEntry, IsDone}
use Rattle.exercise_audit.specs.Time.{IsTimely}
use Rattle.exercise_audit.specs.Audit.{IsBlock}
use Rattle.exercise_audit.specs.Turns.{turn_of}
use Rattle.exercise_audit.specs.Written.{written_below}
use Rattle.exercise_audit.specs.Waiting.{Waiting, waiting_for, Joins}

-- the moment of the next entry of a station
pub record IsNextMoment (c : CourseData) (s : ℕ) (m : Moment) : Type 0 where
  pub event : Event
  pub next : IsNextEntry c.recording (so_far c) s m.entry event
  pub stamp : m.stamp ≡ stamp_of c.recording m.entry

-- THE TURN OF A STATION is the moment of its next entry, and it has none if all its entries are taken
abbrev pub IsTurn : CourseData → ℕ → Option Moment → Type 0
IsTurn c s (Some m) = IsNextMoment c s m
IsTurn c s None = IsDone c.recording (so_far c) s

-- A STATION IS HELD UP: its next entry has this block; and if the datagram that it receives there was not sent, it
-- waits for the source, where there is one
pub record IsHeldUp (c : CourseData) (waiting : Waiting) (s : ℕ) : Type 0 where
  pub block : Block
  pub stands : IsBlock c.recording (so_far c) s block
  pub waits : block.cause ≡ NeverSent → IfSome (source_of c.recording block.entry) (λ source. Contains (waiting_for waiting source) s)

-- a station has its turn, or is held up and has none
abbrev pub Stands : CourseData → Waiting → ℕ → Option Moment → Type 0
Stands c waiting s (Some m) = IsNextMoment c s m
Stands c waiting s None = IsDone c.recording (so_far c) s ⊎ IsHeldUp c waiting s

-- WHAT THE SEARCH KNOWS: the steps so far are good and in the sequence of time, and where each station stands
pub record IsSearch (c : CourseData) (waiting : Waiting) (turns : List (Option Moment)) : Type 0 where
  pub count : length turns ≡ length c.recording.setting.stations
  pub course : IsCourse c
  pub timely : IsTimely c.recording c.steps
  pub each : (s : ℕ) → s < length turns → Stands c waiting s (turn_of turns s)

-- the stations of a list have their turns; the turns of all others are unchanged
pub record HaveTurns (c : CourseData) (stations : List ℕ) (was turns : List (Option Moment)) : Type 0 where
  pub count : length turns ≡ length was
  pub each : (s : ℕ) → s < length was → IsTurn c s (turn_of turns s) ⊎ ((turn_of turns s ≡ turn_of was s) × (Contains stations s → ⊥))

-- a station that cannot go on waits for this entry, if there is any; all others wait as before
abbrev pub Waits : ℕ → Waiting → Waiting → Option ℕ → Type 0
Waits station old new (Some source) = Joins old new source station
Waits station old new None = new ≡ old

-- a station that cannot go on at entry i for this cause waits for the source of the datagram that it receives there,
-- if that was not sent
pub record WaitsFor (r : PlainRecording) (i station : ℕ) (cause : Cause) (old new : Waiting) : Type 0 where
  pub unsent : cause ≡ NeverSent → Waits station old new (source_of r i)
  pub other : cause ≢ NeverSent → new ≡ old

-- THE STEPS TOOK ENTRIES AS THE RECORDING HAS THEM, up to the first one that may not happen then
pub record TookAsWritten (c : CourseData) : Type 0 where
  pub course : IsCourse c
  pub timely : IsTimely c.recording c.steps
  pub history : so_far c ≡ written_below c.recording (length c.steps)
  pub stops : IfSome (slice_get c.recording.entries (length c.steps)) (λ e. IsAllowed c.recording.setting (so_far c) (event_of e) → ⊥)
