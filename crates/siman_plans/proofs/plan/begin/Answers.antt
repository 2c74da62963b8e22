use Rattle.std.proofs.Common.{refl, arith}
use Rattle.siman_stations.specs.World.{WorldData}
use Rattle.siman_plans.proofs.Moves.{datagrams_begun}
use Rattle.siman_plans.proofs.plan.begin.Goals as goal

pub returns-clause-begun : goal.returns-clause-begun
returns-clause-begun c =
    let w : WorldData = record { exercise = c.args.exercise; stations = c.args.stations.items } in
    record { world = c.in-Ok.ensures.begun; notes = c.begin-2.ensures; count = refl; datagrams = datagrams_begun w; few = omega arith }
