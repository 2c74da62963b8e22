use Rattle.std.proofs.Common.{◌≡◌, take}
use Rattle.siman_stations.proofs.world.copy_of.Given as goal

abbrev pub invariant-loop-datum : goal.invariant-loop-datum
invariant-loop-datum l = l.copy.items ≡ take l.datum-index l.datums
