-- The state of a world follows from what happened (profile).
use Rattle.std.specs.Prelude.{◌≡◌, ℕ, true, List, [], ◌∷◌, length, slice_get, Some, None}
use Rattle.siman_pdus.specs.declared.pdu.Pdu.{Pdu}
use Rattle.siman_application.specs.Distinct.{distinct}
use Rattle.siman_application.specs.Ranges.{IsProfileInRange}
use Rattle.siman_application.specs.Application.{came}
use Rattle.siman_manager.specs.Calls.{Call, kept}
use Rattle.siman_scripts.specs.declared.act.Move.{Move}
use Rattle.siman_stations.specs.declared.moving.StepFault.{StepFault}
use Rattle.siman_stations.specs.declared.moving.StepFault.TheVariants as step_faults
use Rattle.siman_stations.specs.declared.turn.Node.{Node}
use Rattle.siman_stations.specs.declared.world.World.{World}
use Rattle.siman_scripts.specs.Stations.{WorldStationData}
use Rattle.siman_stations.specs.World.{WorldData, Course, setting_of, outfit_of, settings_of, sent_in, course_of, first_fault, is_world_station}
use Rattle.siman_stations.specs.WorldLaw.{IsWorldInRange, AreMovesInRange}
use Rattle.siman_stations.specs.Acts.{sends_of}

-- MANAGER AND APPLICATION OF A STATION after these PDUs were received and these calls were made, the latest first:
-- each has its configuration, the application took the distinct requests, and the manager has the orders of the
-- calls
pub record IsNode (w : WorldData) (s : ℕ) (qs : List Pdu) (calls : List Call) (n : Node) : Type 0 where
  pub outfit : n.application.outfit ≡ outfit_of w s
  pub came_is : came n.application ≡ distinct (outfit_of w s) qs
  pub manager : n.manager ≡ record { settings = settings_of w s; orders = kept (settings_of w s) calls }

-- MANAGER AND APPLICATION OF A STATION in their initial state: nothing was received and no call was made, and the
-- numbers are in the ranges of their types
pub record IsNewNode (x : ℕ) (s : WorldStationData) (n : Node) : Type 0 where
  pub fits : is_world_station s ≡ true
  pub outfit : n.application.outfit ≡ record { exercise = x; station = s.station; datums = s.datums; actions = s.actions }
  pub ranges : IsProfileInRange n.application.outfit
  pub kept_is : n.application.kept ≡ []
  pub settings : n.manager.settings ≡ record { exercise = x; address = s.station.address; first_id = s.first_id; tries = s.tries; wait = s.wait }
  pub orders : n.manager.orders ≡ []

-- each station has its manager and application in their initial state
abbrev pub AreNewNodes : ℕ → List WorldStationData → List Node → Type 0
AreNewNodes x [] [] = Unit {0}
AreNewNodes x (s ∷ ss) (n ∷ ns) = IsNewNode x s n × AreNewNodes x ss ns
AreNewNodes x [] (n ∷ ns) = ⊥
AreNewNodes x (s ∷ ss) [] = ⊥

-- THE STATE OF A WORLD follows from what happened: its recording, its datagrams, and the managers and applications
-- of its stations
pub record Holds (w : WorldData) (c : Course) (kept : World) : Type 0 where
  pub recording : kept.journal.recording ≡ record { setting = setting_of w; entries = c.entries }
  pub sends : sends_of kept.journal ≡ sent_in c.entries
  pub count : length kept.nodes.items ≡ length w.stations
  pub nodes : (s : ℕ) (n : Node) → slice_get kept.nodes.items s ≡ Some n → IsNode w s (c.came s) (c.calls s) n

-- A WORLD IS AFTER MOVES, the latest first: each of them was made, and its state is as they leave it
pub record IsAfter (w : WorldData) (moves : List Move) (kept : World) : Type 0 where
  pub world : IsWorldInRange w
  pub moves_are : AreMovesInRange moves
  pub made : first_fault w moves ≡ None
  pub holds : Holds w (course_of w moves) kept

-- after these moves a world refused one more, and is still after them; or memory ran out
abbrev pub IsStillAfter : WorldData → List Move → World → StepFault → Type 0
IsStillAfter w moves kept (step_faults.Move fault) = IsAfter w moves kept
IsStillAfter w moves kept step_faults.Memory = Unit {0}
