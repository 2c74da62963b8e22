use Rattle.std.proofs.Common.{[], map, reverse}
use Rattle.siman_stations.specs.World.{WorldData}
use Rattle.siman_stations.specs.Holds.{IsAfter}
use Rattle.siman_stations.proofs.world.World.run.Given as goal

-- the world is after the moves so far
abbrev pub invariant-loop-number : goal.invariant-loop-number
invariant-loop-number l = (w : WorldData) → IsAfter w [] l.fn.self → IsAfter w (reverse (map (λ p. p.1) l.yielded)) l.self
