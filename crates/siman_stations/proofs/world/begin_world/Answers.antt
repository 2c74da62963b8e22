use Rattle.std.proofs.Common.{subst, map}
use Rattle.std.specs.Prelude.{List}
use Rattle.std.specs.List.{list_all}
use Rattle.exercise_model.specs.Station.{are_stations}
use Rattle.siman_stations.specs.Holds.{AreNewNodes}
use Rattle.siman_stations.specs.World.{is_world_station}
use Rattle.siman_scripts.specs.Stations.{WorldStationData}
use Rattle.siman_stations.proofs.Begins.{new_fit, and_true}
use Rattle.siman_stations.proofs.world.begin_world.Goals as goal

pub returns-clause-stations : goal.returns-clause-stations
returns-clause-stations c =
    let are : AreNewNodes c.args.exercise c.args.stations.items c.in_ok-nodes.nodes.items =
    subst (λ (ss : List WorldStationData). AreNewNodes c.args.exercise ss c.in_ok-nodes.nodes.items) c.deref.ensures.value
    c.in_ok-nodes.ensures.nodes in
    and_true (are_stations (map (λ s. s.station) c.args.stations.items))
    (list_all is_world_station c.args.stations.items) c.in_ok-recording.ensures.stations
    (new_fit c.args.exercise c.args.stations.items c.in_ok-nodes.nodes.items are)
