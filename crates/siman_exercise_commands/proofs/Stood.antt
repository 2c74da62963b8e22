-- A station of a script as it stands at its line, and why one is not set up.
use Rattle.std.proofs.Common.{◌≡◌, ℕ, length, List, Option, Some, None, refl, ap, sym, ◌∙◌, subst, arith}
use Rattle.std.specs.Prelude.{Bool, Ok, Err}
use Rattle.dis_records.specs.declared.address.SiteApplication.{SiteApplication}
use Rattle.exercise_model.specs.Recording.{PlainRecording, opened}
use Rattle.siman_scripts.specs.Script.{ScriptData}
use Rattle.siman_scripts.specs.Stations.{WorldStationData}
use Rattle.siman_stations.specs.declared.turn.Node.{Node}
use Rattle.siman_lines.specs.Calls.{IsFresh}
use Rattle.siman_operator.specs.Noting.{datagrams_sent}
use Rattle.siman_operator.specs.Posts.{IsAtLink}
use Rattle.siman_operator.specs.declared.clock.WaitUnit.{WaitUnit}
use Rattle.siman_operator.specs.declared.recorded.ReadyStation.{ReadyStation}
use Rattle.siman_operator.specs.declared.scripted.SetUp.{SetUp}
use Rattle.siman_operator.specs.declared.scripted.SetUpFault.{SetUpFault}
use Rattle.siman_operator.specs.declared.scripted.SetUpFault.TheVariants as set_ups
use Rattle.siman_operator.specs.Recorded.{open_setting, IsReady}
use Rattle.siman_operator.specs.Scripted.{station_at, addresses_of, waiting_by, SetsUpFound, SetsUp}
use Rattle.siman_exercise_commands.specs.Explained.{TextRead, GivesWhy}
use Rattle.siman_exercise_commands.specs.Station.{of_set_up, SetsUpNone, SetsUpFile, IsOfScript}

-- it is as it was begun
pub stood_ready : {L : Type 0} (set_up : SetUp) (ready : ReadyStation L) → IsOfScript set_up → ready.head ≡ set_up.head
    → ready.log ≡ opened (open_setting set_up.head) → IsAtLink set_up.node ready.station
    → IsReady ready
stood_ready set_up ready (x, addresses, s, is) head log begun =
    let same = head ∙ is.head in
    let new = is.node in
    record {
      one = ap (λ (r : PlainRecording). length r.setting.stations) same;
      log = log ∙ ap (λ (r : PlainRecording). opened (open_setting r)) (sym head);
      index = begun.index;
      fresh =
          subst (λ (n : Node). IsFresh 0 n (open_setting ready.head) (Some (datagrams_sent ready.station.line))) (sym begun.node_is)
          (subst (λ (r : PlainRecording). IsFresh 0 set_up.node (open_setting r) (Some (datagrams_sent ready.station.line))) (sym same)
          (record {
            station = record {
              within = omega arith;
              exercise = ap (λ o. o.exercise) new.outfit;
              station = ap (λ o. o.station) new.outfit;
              manager_exercise = ap (λ o. o.exercise) new.settings;
              address = ap (λ o. o.address) new.settings;
            };
            ranges = new.ranges;
            nothing_received = new.kept_is;
            no_order = new.orders;
            unused = begun.sent;
          }));
    }

pub none_set_up : (s : ScriptData) (address : SiteApplication) (unit : WaitUnit) (fault : SetUpFault) → SetsUp s address unit (Err fault) → SetsUpNone (Ok s) address unit (of_set_up fault)
none_set_up s address unit set_ups.NotInSetup is = (s, refl, is)
none_set_up s address unit set_ups.Stations is = (s, refl, is)
none_set_up s address unit set_ups.Memory is = tt

-- no line of a script is refused where a station is not set up
pub no_why : (t : TextRead) (fault : SetUpFault) → GivesWhy t (of_set_up fault)
no_why t set_ups.NotInSetup = tt
no_why t set_ups.Stations = tt
no_why t set_ups.Memory = tt

found_one : (x : ℕ) (addresses : List SiteApplication) (unit : WaitUnit) (found : Option WorldStationData) (set_up : SetUp) → SetsUpFound x addresses unit found (Ok set_up) → IsOfScript set_up
found_one x addresses unit None set_up is = absurd cc
found_one x addresses unit (Some s) set_up is = (x, addresses, waiting_by unit s, is)

-- the station of a script that was read
pub of_script : (s : ScriptData) (address : SiteApplication) (unit : WaitUnit) (set_up : SetUp) → SetsUp s address unit (Ok set_up) → IsOfScript set_up
of_script s address unit set_up is = found_one s.exercise (addresses_of s.stations) unit (station_at address s.stations) set_up is

pub of_text : (known : Option (List ℕ)) (address : SiteApplication) (by_system : Bool) (set_up : SetUp) → SetsUpFile known address by_system (Ok set_up) → IsOfScript set_up
of_text known address by_system set_up (text, has, ((s, read, is), why)) = of_script s address _ set_up is
