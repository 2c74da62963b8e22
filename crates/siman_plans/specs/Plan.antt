-- Plans: what each line of a source does in the world of its stations, as a function of the lines (profile).
use Rattle.std.specs.Prelude.{ℕ, Bool, false, nat_lt, List, [], ◌∷◌, length, Option, Some, None, Result, Ok, Err, if◌then◌else◌}
use Rattle.siman_scripts.specs.declared.act.Act.{Act}
use Rattle.siman_scripts.specs.declared.act.Act.TheVariants.{Command, Deliver, Tick, Tell}
use Rattle.siman_scripts.specs.declared.act.Move.{Move}
use Rattle.siman_stations.specs.declared.world_fault.MoveFault.{MoveFault}
use Rattle.siman_stations.specs.World.{WorldData, Course, station_of, sent_in, state_by, after_move, course_of, move_fault}
use Rattle.siman_plans.specs.declared.deed.Deed.{Deed}
use Rattle.siman_plans.specs.declared.deed.Deed.TheVariants.{Ordered, Ticked, Told, Brought}
use Rattle.siman_plans.specs.declared.plan_fault.Stop.{Stop}
use Rattle.siman_plans.specs.declared.plan_fault.Stop.TheVariants as stops
use Rattle.siman_plans.specs.declared.plan_fault.Unnamed.{Unnamed}
use Rattle.siman_plans.specs.declared.source.SourceLine.{SourceLine}
use Rattle.siman_plans.specs.declared.source.SourceMove.{SourceMove}
use Rattle.siman_plans.specs.declared.source.SourceMove.TheVariants.{At, Acts, Brings, Loses}
use Rattle.siman_plans.specs.declared.source.Which.{Which}
use Rattle.siman_plans.specs.Plain.{act_text}
use Rattle.siman_plans.specs.Notes.{NotesData, no_notes, named_then, named, place_of, sent_before, label_of, after_at, after_deed, after_loss}

-- WHAT A PLAN HAS AFTER SOME LINES: the moves, THE LATEST FIRST, and the notes on the lines
pub record PlanData : Type 0 where
  pub moves : List Move
  pub notes : NotesData

-- before the first line
abbrev pub no_plan : PlanData
no_plan = record { moves = []; notes = no_notes }

-- Moves.

-- the number of datagrams that were sent
abbrev pub sent_count : Course → ℕ
sent_count c = length (sent_in c.entries)

-- the move of a station, at the time of the clocks
abbrev pub move_at : NotesData → (s : ℕ) → Act → Move
move_at n s act = record { now = n.clock; station = s; act = act }

-- the datagram that a move sends, if any
abbrev pub sends_by : WorldData → Course → Move → Option ℕ
sends_by w c m = if nat_lt (sent_count c) (sent_count (after_move w c m)) then Some (sent_count c) else None

-- what an act did that sent this datagram, or none
abbrev pub did_by : WorldData → Course → (s : ℕ) → Act → (label : Option ℕ) → (sends : Option ℕ) → Deed
did_by w c s (Command order) label sends = Ordered s (sent_count c) label
did_by w c s (Deliver k) label sends = Brought s k sends
did_by w c s Tick label sends = Ticked s sends label
did_by w c s (Tell e) label sends = Told s e (state_by w c s e)

-- the plain line of an act
abbrev pub plain_by : WorldData → (s : ℕ) → Act → List ℕ
plain_by w s act = act_text (station_of w s).station.address act

-- the notes after a move
abbrev pub notes_by : WorldData → Course → (line : ℕ) → (is_labelled : Bool) → Move → NotesData → NotesData
notes_by w c line is_labelled m n =
    after_deed line is_labelled (sends_by w c m) (did_by w c m.station m.act (label_of is_labelled n) (sends_by w c m)) (plain_by w m.station m.act) n

-- the plan after a line whose move is made, or the refusal of its move by the world
abbrev pub unless_refused : (line : ℕ) → (number : ℕ) → Option MoveFault → PlanData → Result PlanData Stop
unless_refused line number None d = Ok d
unless_refused line number (Some fault) d = Err (stops.Refused (record { line = line; number = number; fault = fault }))

abbrev pub made : WorldData → (line : ℕ) → (is_labelled : Bool) → Move → PlanData → Result PlanData Stop
made w line is_labelled m d =
    unless_refused line (length d.moves) (move_fault w (course_of w d.moves) m)
    (record { moves = m ∷ d.moves; notes = notes_by w (course_of w d.moves) line is_labelled m d.notes })

-- Lines.

-- what is named in a line, or why nothing is
abbrev pub unless_unnamed : (line : ℕ) → (column : ℕ) → Result ℕ Unnamed → (ℕ → Result PlanData Stop) → Result PlanData Stop
unless_unnamed line column (Ok k) next = next k
unless_unnamed line column (Err why) next = Err (stops.Unnamed line column why)

-- a datagram is delivered to a station, or to that to which it was delivered last
abbrev pub brings : WorldData → (line : ℕ) → (column : ℕ) → Which → (to : Option ℕ) → PlanData → Result PlanData Stop
brings w line column which to d =
    unless_unnamed line column (named d.notes which) (λ k.
    unless_unnamed line column (place_of d.notes k to) (λ s. made w line false (move_at d.notes s (Deliver k)) d))

-- it is meant that a datagram, which was sent, reaches nobody
abbrev pub loses : (line : ℕ) → (column : ℕ) → Which → PlanData → Result PlanData Stop
loses line column which d =
    unless_unnamed line column (named_then (named d.notes which) (sent_before d.notes)) (λ k. Ok (record d { notes = after_loss line k d.notes }))

abbrev pub does_after : WorldData → (line : ℕ) → (column : ℕ) → SourceMove → PlanData → Result PlanData Stop
does_after w line column (At now) d = Ok (record d { notes = after_at line now d.notes })
does_after w line column (Acts s act is_labelled) d = made w line is_labelled (move_at d.notes s act) d
does_after w line column (Brings which to) d = brings w line column which to d
does_after w line column (Loses which) d = loses line column which d

-- THE PLAN AFTER ONE MORE LINE, or why it stops there
abbrev pub line_after : WorldData → SourceLine → PlanData → Result PlanData Stop
line_after w l d = does_after w l.line l.column l.does d

-- the plan so far and the stop, or the rest
abbrev pub unless_stopped : PlanData → Result PlanData Stop → (PlanData → PlanData × Option Stop) → PlanData × Option Stop
unless_stopped d (Ok e) next = next e
unless_stopped d (Err stop) next = (d, Some stop)

-- THE PLAN AFTER LINES in their order, as far as the first that stops it, and that stop, if any
abbrev pub lines_after : WorldData → PlanData → List SourceLine → PlanData × Option Stop
lines_after w d [] = (d, None)
lines_after w d (l ∷ ls) = unless_stopped d (line_after w l d) (λ e. lines_after w e ls)

-- THE PLAN OF LINES
abbrev pub plan_at : WorldData → List SourceLine → PlanData × Option Stop
plan_at w ls = lines_after w no_plan ls
