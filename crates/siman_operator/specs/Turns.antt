-- The turns of a post after a line of text (profile). Lists of turns have THE LAST ONE FIRST.
use Rattle.std.specs.Prelude.{◌≡◌, ◌≤◌, ◌⊎◌, Bool, true, false, ◌||◌, not, List, [], ◌∷◌, length, Result, Ok, Err}
use Rattle.exercise_recording.specs.Writer.{WriterState}
use Rattle.siman_stations.specs.declared.moment.Moment.{Moment}
use Rattle.siman_lines.specs.declared.fault.ServeFault.{ServeFault}
use Rattle.siman_lines.specs.declared.fault.ServeFault.TheVariants as faults
use Rattle.siman_lines.specs.declared.served.Served.{Served}
use Rattle.siman_lines.specs.declared.station_at_line.StationAtLine.{StationAtLine}
use Rattle.siman_lines.specs.AtLines.{Telling}
use Rattle.siman_operator.specs.declared.turns.TheConstants.{MOST_TURNS}
use Rattle.siman_operator.specs.declared.turns.Trouble.{Trouble}
use Rattle.siman_operator.specs.Deeds.{ServesOnce}

-- the result of one receive
abbrev pub Turn : Type 0
Turn = Result Served ServeFault

-- another turn follows: a datagram was found, or a send failed, or memory ran out
abbrev pub is_followed : Turn → Bool
is_followed (Ok served) = not served.idle
is_followed (Err faults.Receive) = false
is_followed (Err faults.Send) = true
is_followed (Err (faults.Record fault)) = false
is_followed (Err faults.Memory) = true

-- a call of the link failed
abbrev pub is_lost : Turn → Bool
is_lost (Ok served) = false
is_lost (Err faults.Receive) = true
is_lost (Err faults.Send) = true
is_lost (Err (faults.Record fault)) = false
is_lost (Err faults.Memory) = false

abbrev pub is_out_of_memory : Turn → Bool
is_out_of_memory (Ok served) = false
is_out_of_memory (Err faults.Receive) = false
is_out_of_memory (Err faults.Send) = false
is_out_of_memory (Err (faults.Record fault)) = false
is_out_of_memory (Err faults.Memory) = true

abbrev pub is_unrecorded : Turn → Bool
is_unrecorded (Ok served) = false
is_unrecorded (Err faults.Receive) = false
is_unrecorded (Err faults.Send) = false
is_unrecorded (Err (faults.Record fault)) = true
is_unrecorded (Err faults.Memory) = false

-- what failed in turns
abbrev pub trouble_in : List Turn → Trouble
trouble_in [] = record { line = false; memory = false; recorder = false }
trouble_in (t ∷ ts) = record { line = is_lost t || (trouble_in ts).line; memory = is_out_of_memory t || (trouble_in ts).memory; recorder = is_unrecorded t || (trouble_in ts).recorder }

abbrev pub AreFollowed : List Turn → Type 0
AreFollowed [] = Unit {0}
AreFollowed (t ∷ ts) = (is_followed t ≡ true) × AreFollowed ts

-- a station with its recorder
pub record RecordedPost (L : Type 0) : Type 0 where
  pub station : StationAtLine L
  pub recorder : WriterState

-- turns with these results, one after the other
abbrev pub Take : {L : Type 0} → Telling L → (at : Moment) → List Turn → (old new : RecordedPost L) → Type 0
Take told at [] old new = new ≡ old
Take {L} told at (t ∷ ts) old new =
    (mid : RecordedPost L) × Take told at ts old mid × ServesOnce told at mid.station mid.recorder new.station new.recorder t

-- the turns end with the first that no other follows, or with the greatest number of them
abbrev pub AreAllTurns : List Turn → Type 0
AreAllTurns [] = ⊥
AreAllTurns (t ∷ ts) = AreFollowed ts × ((is_followed t ≡ false) ⊎ (length (t ∷ ts) ≡ MOST_TURNS))

-- A POST IS SERVED, turn after turn, until a receive finds nothing or fails, or an entry is not recorded, with at
-- most 65,536 receives; with what failed
pub record TakesTurns {L : Type 0} (told : Telling L) (at : Moment) (p : StationAtLine L) (w : WriterState) (q : StationAtLine L) (v : WriterState)
    (trouble : Trouble) : Type 0 where
  pub turns : List Turn
  pub most : length turns ≤ MOST_TURNS
  pub made : let old : RecordedPost L = record { station = p; recorder = w } in let new : RecordedPost L = record { station = q; recorder = v } in Take told at turns old new
  pub all : AreAllTurns turns
  pub failed : trouble ≡ trouble_in turns
