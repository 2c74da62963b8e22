-- A plan as it is made: its world and its notes (profile).
use Rattle.std.specs.Prelude.{◌≡◌, ◌≤◌, ℕ, List, ◌∷◌, length, slice_get, ◌-◌, Option, Some, None, Result, Ok, Err}
use Rattle.dis_records.specs.declared.entity_state.EntityState.{EntityState}
use Rattle.dis_records.specs.declared.entity_state.EntityState.TheVariants.{Absent}
use Rattle.exercise_model.specs.declared.recording.TheConstants.{MOST_ENTRIES}
use Rattle.exercise_model.specs.Entry.{Entry, Sent, Received, Told}
use Rattle.siman_scripts.specs.declared.act.Act.{Act}
use Rattle.siman_scripts.specs.declared.act.Act.TheVariants.{Command, Deliver, Tick, Tell}
use Rattle.siman_scripts.specs.declared.act.Move.{Move}
use Rattle.siman_stations.specs.declared.moving.StepFault.{StepFault}
use Rattle.siman_stations.specs.declared.moving.StepFault.TheVariants as step_faults
use Rattle.siman_stations.specs.declared.world.World.{World}
use Rattle.siman_stations.specs.Holds.{IsAfter}
use Rattle.siman_stations.specs.World.{WorldData, course_of, move_fault}
use Rattle.siman_plans.specs.declared.deed.Deed.{Deed}
use Rattle.siman_plans.specs.declared.deed.Deed.TheVariants as deeds
use Rattle.siman_plans.specs.declared.plan_fault.LineFault.{LineFault}
use Rattle.siman_plans.specs.declared.plan_fault.LineFault.TheVariants as line_faults
use Rattle.siman_plans.specs.declared.plan_fault.Stop.{Stop}
use Rattle.siman_plans.specs.declared.plan_fault.Stop.TheVariants as stops
use Rattle.siman_plans.specs.declared.planner.Planner.{Planner}
use Rattle.siman_plans.specs.Plan.{PlanData, sent_count, sends_by}

-- What a move did.

-- the state that the last entry tells
abbrev pub told_in : Option Entry → EntityState
told_in None = Absent
told_in (Some (Sent s stamp b)) = Absent
told_in (Some (Received s stamp b)) = Absent
told_in (Some (Told s e y)) = y

abbrev pub last_told : List Entry → EntityState
last_told es = told_in (slice_get es (length es - 1))

-- what an act will have done, apart from what only the move shows; k datagrams were sent before
abbrev pub deed_before : Act → (s : ℕ) → (k : ℕ) → (label : Option ℕ) → Deed
deed_before (Command order) s k label = deeds.Ordered s k label
deed_before (Deliver number) s k label = deeds.Brought s number None
deed_before Tick s k label = deeds.Ticked s None label
deed_before (Tell e) s k label = deeds.Told s e Absent

-- a deed with what the move showed: what it sent, and the state that it told
abbrev pub completed : (sends : Option ℕ) → EntityState → Deed → Deed
completed sends state (deeds.Set is_back) = deeds.Set is_back
completed sends state (deeds.Ordered s k label) = deeds.Ordered s k label
completed sends state (deeds.Ticked s was label) = deeds.Ticked s sends label
completed sends state (deeds.Told s e y) = deeds.Told s e state
completed sends state (deeds.Brought s k was) = deeds.Brought s k sends
completed sends state (deeds.Lost k) = deeds.Lost k

-- one more move of a world after moves, the latest first: it was made, and sent this; or it was refused, and the world
-- is still after those before; or memory ran out
abbrev pub Stepped : WorldData → List Move → Move → Result (Option ℕ) StepFault → World → Type 0
Stepped w ms m (Ok sends) kept =
    IsAfter w (m ∷ ms) kept × (move_fault w (course_of w ms) m ≡ None) × (sends ≡ sends_by w (course_of w ms) m)
    × (sent_count (course_of w (m ∷ ms)) ≤ MOST_ENTRIES)
Stepped w ms m (Err (step_faults.Move fault)) kept = (move_fault w (course_of w ms) m ≡ Some fault) × IsAfter w ms kept
Stepped w ms m (Err step_faults.Memory) kept = Unit {0}

-- the fault of a line whose move was not made, after so many moves
abbrev pub refused_as : (line : ℕ) → (number : ℕ) → StepFault → LineFault
refused_as line number (step_faults.Move fault) = line_faults.Stop (stops.Refused (record { line = line; number = number; fault = fault }))
refused_as line number step_faults.Memory = line_faults.Memory

-- A PLAN IS MADE SO FAR: its world is after the moves, and its notes are those on the lines, with each sent datagram
pub record IsSoFar (w : WorldData) (d : PlanData) (kept : Planner) : Type 0 where
  pub world : IsAfter w d.moves kept.world
  pub notes : kept.notes ≡ d.notes
  pub count : d.notes.made ≡ length d.moves
  pub datagrams : length d.notes.sent ≡ sent_count (course_of w d.moves)
  pub few : length d.notes.sent ≤ MOST_ENTRIES

-- a line left what it should give: the plan after it, or the plan as it was where it stops; or memory ran out
abbrev pub Leaves : {T : Type 0} → WorldData → PlanData → Result PlanData Stop → Result T LineFault → Planner → Type 0
Leaves w d should (Ok u) kept = (e : PlanData) × (should ≡ Ok e) × IsSoFar w e kept
Leaves w d should (Err (line_faults.Stop stop)) kept = (should ≡ Err stop) × IsSoFar w d kept
Leaves w d should (Err line_faults.Memory) kept = Unit {0}

-- lines left what they should: the plan as far as the first that stops it, and that stop, if any; or memory ran out
abbrev pub LeavesAll : {T : Type 0} → WorldData → PlanData × Option Stop → Result T LineFault → Planner → Type 0
LeavesAll w should (Ok u) kept = (should.1 ≡ None) × IsSoFar w should.0 kept
LeavesAll w should (Err (line_faults.Stop stop)) kept = (should.1 ≡ Some stop) × IsSoFar w should.0 kept
LeavesAll w should (Err line_faults.Memory) kept = Unit {0}
