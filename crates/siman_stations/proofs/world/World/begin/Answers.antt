use Rattle.std.proofs.Common.{◌∙◌}
use Rattle.siman_stations.specs.World.{WorldData}
use Rattle.siman_stations.proofs.Begins.{begun}
use Rattle.siman_stations.proofs.world.World.begin.Goals as goal

pub returns-clause-begun : goal.returns-clause-begun
returns-clause-begun c =
    let w : WorldData = record { exercise = c.args.exercise; stations = c.args.stations.items } in
    begun w _ c.in_ok-recording.ensures.nodes (c.begin.ensures.recording ∙ c.in_ok-recording.ensures.recording) c.begin.ensures.sends
