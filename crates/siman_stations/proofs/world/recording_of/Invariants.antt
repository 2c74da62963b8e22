use Rattle.std.proofs.Common.{◌≡◌, map}
use Rattle.siman_stations.proofs.world.recording_of.Given as goal

abbrev pub invariant-loop-station : goal.invariant-loop-station
invariant-loop-station l = l.recorded.items ≡ map (λ s. s.station) l.yielded
