-- A plan as it is handed over (profile).
use Rattle.std.specs.Prelude.{◌≡◌, ◌≤◌, true, false, length, reverse, Option, Some, option_map}
use Rattle.exercise_model.specs.declared.recording.TheConstants.{MOST_ENTRIES}
use Rattle.siman_stations.specs.World.{WorldData, sent_in, are_world_stations, world_recording}
use Rattle.siman_plans.specs.declared.plan.Plan.{Plan}
use Rattle.siman_plans.specs.declared.plan_fault.PlanFault.{PlanFault}
use Rattle.siman_plans.specs.declared.plan_fault.PlanFault.TheVariants as faults
use Rattle.siman_plans.specs.declared.plan_fault.Stop.{Stop}
use Rattle.siman_plans.specs.declared.plan_fault.Stop.TheVariants as stops
use Rattle.siman_plans.specs.Plan.{PlanData}

-- A PLAN OF LINES, as far as the first that stops it: its recording is that of the moves in their order, it has the
-- notes on the lines, with each datagram that was sent, and says whether a move was refused
pub record IsPlan (w : WorldData) (should : PlanData × Option Stop) (p : Plan) : Type 0 where
  pub recording : p.recording ≡ world_recording w (reverse should.0.moves)
  pub planned : p.planned.items ≡ should.0.notes.planned
  pub sent : p.sent.items ≡ should.0.notes.sent
  pub datagrams : length p.sent.items ≡ length (sent_in p.recording.entries)
  pub few : length p.sent.items ≤ MOST_ENTRIES
  pub script : p.script.items ≡ should.0.notes.script
  pub stop : should.1 ≡ option_map stops.Refused p.stop

-- the fault of a call is that a world cannot have the stations, or that a word names nothing; lack of memory may happen
-- with any
abbrev pub Faults : WorldData → PlanData × Option Stop → PlanFault → Type 0
Faults w should faults.Stations = are_world_stations w.stations ≡ false
Faults w should (faults.Unnamed line column why) = (are_world_stations w.stations ≡ true) × (should.1 ≡ Some (stops.Unnamed line column why))
Faults w should faults.Memory = Unit {0}
