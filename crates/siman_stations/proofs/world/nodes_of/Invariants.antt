use Rattle.std.proofs.Common.{take}
use Rattle.siman_stations.specs.Holds.{AreNewNodes}
use Rattle.siman_stations.proofs.world.nodes_of.Given as goal

abbrev pub invariant-loop-station : goal.invariant-loop-station
invariant-loop-station l = AreNewNodes l.exercise (take l.station-index l.stations) l.nodes.items
