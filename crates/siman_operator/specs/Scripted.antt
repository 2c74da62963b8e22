-- The station of a script that a session plays (profile).
use Rattle.std.specs.Prelude.{◌≡◌, ⊤, ℕ, false, List, [], ◌∷◌, slice_get, map, Option, Some, None, Result, Ok, Err}
use Rattle.std.specs.Option.{option_and_then}
use Rattle.dis_records.specs.declared.address.SiteApplication.{SiteApplication}
use Rattle.exercise_model.specs.declared.form.Form.TheVariants.{First}
use Rattle.exercise_model.specs.Recording.{opened}
use Rattle.siman_scripts.specs.Draft.{index_of}
use Rattle.siman_scripts.specs.Script.{ScriptData}
use Rattle.siman_scripts.specs.Stations.{WorldStationData}
use Rattle.siman_stations.specs.Holds.{IsNewNode}
use Rattle.siman_stations.specs.World.{is_world_station}
use Rattle.siman_operator.specs.Clocks.{wait_by}
use Rattle.siman_operator.specs.declared.clock.WaitUnit.{WaitUnit}
use Rattle.siman_operator.specs.declared.scripted.SetUp.{SetUp}
use Rattle.siman_operator.specs.declared.scripted.SetUpFault.{SetUpFault}
use Rattle.siman_operator.specs.declared.scripted.SetUpFault.TheVariants as faults

-- the station at an address, if any
abbrev pub station_at : SiteApplication → List WorldStationData → Option WorldStationData
station_at a ss = option_and_then (slice_get ss) (index_of a ss)

-- the addresses of stations
abbrev pub addresses_of : List WorldStationData → List SiteApplication
addresses_of ss = map (λ s. s.station.address) ss

-- A CONFIGURED STATION: its recording has no entries, its manager and application are in their initial state, and
-- it has the addresses of all stations of its script and the wait of its orders
pub record IsSetUp (exercise : ℕ) (addresses : List SiteApplication) (s : WorldStationData) (set_up : SetUp) : Type 0 where
  pub head : set_up.head ≡ opened (record { form = First; exercise = exercise; stations = s.station ∷ [] })
  pub node : IsNewNode exercise s set_up.node
  pub stations : set_up.stations.items ≡ addresses
  pub wait : set_up.wait ≡ s.wait

-- a station whose wait counts this
abbrev pub waiting_by : WaitUnit → WorldStationData → WorldStationData
waiting_by unit s = record s { wait = wait_by unit s.wait }

-- a configured station; or a fault: no world can have this station, or memory ran out
abbrev pub SetsUpOne : (exercise : ℕ) → (addresses : List SiteApplication) → WorldStationData → Result SetUp SetUpFault → Type 0
SetsUpOne exercise addresses s (Ok set_up) = IsSetUp exercise addresses s set_up
SetsUpOne exercise addresses s (Err faults.NotInSetup) = ⊥
SetsUpOne exercise addresses s (Err faults.Stations) = is_world_station s ≡ false
SetsUpOne exercise addresses s (Err faults.Memory) = ⊤

abbrev pub SetsUpFound : (exercise : ℕ) → (addresses : List SiteApplication) → WaitUnit → Option WorldStationData → Result SetUp SetUpFault → Type 0
SetsUpFound exercise addresses unit None result = result ≡ Err faults.NotInSetup
SetsUpFound exercise addresses unit (Some s) result = SetsUpOne exercise addresses (waiting_by unit s) result

-- THE STATION OF A SCRIPT AT AN ADDRESS is set up, if the script has it, with what its wait counts
abbrev pub SetsUp : ScriptData → (address : SiteApplication) → WaitUnit → Result SetUp SetUpFault → Type 0
SetsUp script address unit result = SetsUpFound script.exercise (addresses_of script.stations) unit (station_at address script.stations) result
